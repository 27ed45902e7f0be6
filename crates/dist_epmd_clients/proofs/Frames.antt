-- A frame, its fronts, and what stands behind it.
use Rattle.std.proofs.Common.{◌≡◌, ℕ, ◌<◌, ◌≤◌, Bool, true, false, cond, List, [], ◌++◌, length, take, drop, refl, sym, ap, ◌∙◌, append_assoc, arith, length-append, length-drop}
use Rattle.std.proofs.lemmas.Nat.{from_be_bytes-to_be_bytes_2}
use Rattle.std.specs.Prelude.{nat_lt}
use Rattle.dist_epmd_clients.proofs.Words.{w16, from_be_bytes, to_be_bytes, cond-false, cond-true, le-ltb, lt-ltb, take_at, drop_at, append-nil, take-append-le}
use Rattle.dist_epmd_clients.proofs.Words.{body_frame, read_request, Inside, Nothing}
use Rattle.dist_epmd_clients.specs.Asking.{request_question, front, question, question_behind_length}

-- the length that a frame begins with
announced : (body more : List ℕ) → length body ≤ 4094 → from_be_bytes w16 (take 2 (body_frame w16 body ++ more)) ≡ length body
announced body more few =
    ap (λ (x : List ℕ). from_be_bytes w16 (take 2 x)) (append_assoc (to_be_bytes w16 (length body)) body more)
    ∙ ap (from_be_bytes w16) (take_at (to_be_bytes w16 (length body)) (body ++ more) 2 refl)
    ∙ from_be_bytes-to_be_bytes_2 (length body) (omega arith)

-- what stands behind that length
behind_it : (body more : List ℕ) → drop 2 (body_frame w16 body ++ more) ≡ body ++ more
behind_it body more =
    ap (drop 2) (append_assoc (to_be_bytes w16 (length body)) body more)
    ∙ drop_at (to_be_bytes w16 (length body)) (body ++ more) 2 refl

-- a question is seen once the length is there
seen : (local : Bool) (said : List ℕ) (len : ℕ) (rest : List ℕ) → 2 ≤ length said → from_be_bytes w16 (take 2 said) ≡ len → drop 2 said ≡ rest → question local said ≡ question_behind_length local len rest
seen local said len rest long e f =
    cond-false (nat_lt (length said) 2) Inside (question_behind_length local (from_be_bytes w16 (take 2 said)) (drop 2 said)) (le-ltb (length said) 2 long)
    ∙ ap (λ n. question_behind_length local n (drop 2 said)) e
    ∙ ap (question_behind_length local len) f

fits : (local : Bool) (len : ℕ) (rest : List ℕ) → len ≤ 4094 → question_behind_length local len rest ≡ cond (nat_lt (length rest) len) Inside (cond (nat_lt len (length rest)) Nothing (request_question local (read_request (front rest))))
fits local len rest few = cond-false (nat_lt 4094 len) Nothing _ (le-ltb 4094 len few)

begins : (body more : List ℕ) → 2 ≤ length (body_frame w16 body ++ more)
begins body more = omega (arith, length-append (body_frame w16 body) more, length-append (to_be_bytes w16 (length body)) body)

pub whole_asks : (local : Bool) (body : List ℕ) → length body ≤ 4094 → question local (body_frame w16 body) ≡ request_question local (read_request (front body))
whole_asks local body few =
    ap (question local) (sym (append-nil (body_frame w16 body)))
    ∙ seen local (body_frame w16 body ++ []) (length body) body (begins body []) (announced body [] few) (behind_it body [] ∙ append-nil body)
    ∙ fits local (length body) body few
    ∙ cond-false (nat_lt (length body) (length body)) Inside _ (le-ltb (length body) (length body) (omega arith))
    ∙ cond-false (nat_lt (length body) (length body)) Nothing (request_question local (read_request (front body))) (le-ltb (length body) (length body) (omega arith))

pub behind_asks : (local : Bool) (body more : List ℕ) → length body ≤ 4094 → 0 < length more → question local (body_frame w16 body ++ more) ≡ Nothing
behind_asks local body more few some =
    seen local (body_frame w16 body ++ more) (length body) (body ++ more) (begins body more) (announced body more few) (behind_it body more)
    ∙ fits local (length body) (body ++ more) few
    ∙ cond-false (nat_lt (length (body ++ more)) (length body)) Inside _ (le-ltb (length (body ++ more)) (length body) (omega (arith, length-append body more)))
    ∙ cond-true (nat_lt (length body) (length (body ++ more))) Nothing (request_question local (read_request (front (body ++ more)))) (lt-ltb (length body) (length (body ++ more)) (omega (arith, length-append body more)))

short : (local : Bool) (part : List ℕ) → nat_lt (length part) 2 ≡ true → question local part ≡ Inside
short local part e = cond-true (nat_lt (length part) 2) Inside (question_behind_length local (from_be_bytes w16 (take 2 part)) (drop 2 part)) e

long : (local : Bool) (body part rest : List ℕ) → length body ≤ 4094 → 0 < length rest → body_frame w16 body ≡ part ++ rest → 2 ≤ length part → question local part ≡ Inside
long local body part rest few some e two =
    let same : body_frame w16 body ++ [] ≡ part ++ rest = append-nil (body_frame w16 body) ∙ e in
    let head : from_be_bytes w16 (take 2 part) ≡ length body = ap (from_be_bytes w16) (sym (take-append-le 2 part rest two) ∙ ap (take 2) (sym same)) ∙ announced body [] few in
    let less : length (drop 2 part) < length body = omega (arith, length-drop 2 part, length-append part rest, ap length e, length-append (to_be_bytes w16 (length body)) body) in
    seen local part (length body) (drop 2 part) two head refl
    ∙ fits local (length body) (drop 2 part) few
    ∙ cond-true (nat_lt (length (drop 2 part)) (length body)) Inside _ (lt-ltb (length (drop 2 part)) (length body) less)

pub front_waits : (local : Bool) (body part rest : List ℕ) → length body ≤ 4094 → 0 < length rest → body_frame w16 body ≡ part ++ rest → question local part ≡ Inside
front_waits local body part rest few some e = elim (nat_lt (length part) 2) as (λ v. nat_lt (length part) 2 ≡ v → question local part ≡ Inside) [
  | true ↦ λ h. short local part h
  | false ↦ λ h. long local body part rest few some e (Rattle.std.proofs.lemmas.Bool.ltb-false (length part) 2 h)
] refl
