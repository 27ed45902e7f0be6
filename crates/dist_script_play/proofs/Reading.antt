-- What readers have to give.
use Rattle.dist_script_play.proofs.Words.{◌≡◌, ℕ, zero, suc, ◌+◌, ◌-◌, ◌<◌, ◌≤◌, Bool, true, false, cond, [], ◌∷◌, ◌++◌, length, get_or, set, replicate}
use Rattle.dist_script_play.proofs.Words.{is_some, Some, None, Ok, Err, Option, Result, sym, refl, ap, ◌∙◌, append_assoc, append-nil, arith, w16, get_or_past}
use Rattle.dist_script_play.proofs.Words.{length_push, Reader, as_linked, next_body, to_come, without_next, EndId, Why, NodeState, Reply, StepError, Readers}
use Rattle.dist_script_play.proofs.Words.{Standing, after_frame, open_readers, reader_of, readers_to, with_reader}
use Rattle.dist_frames.specs.{Reader.Reader.Linked, Reader.Reader.Short, Stream.has_first, Stream.front, Stream.behind, Stream.bodies_up_to}

-- where no body is next, none is dropped
pub no_next : (r : Reader) → None ≡ next_body r → without_next r ≡ r
no_next (Linked ended rest) e = refl
no_next (Short pending) e =
    elim (has_first w16 pending) as (λ b. None ≡ cond b (Some (front w16 pending)) None → Short (cond b (behind w16 pending) pending) ≡ Short pending) [
      | true ↦ λ e. absurd cc
      | false ↦ λ e. refl
    ] e

-- nothing is to come to a reader that has received nothing
empty_stopped : to_come (Short []) ≡ []
unfolding bodies_up_to
empty_stopped = refl

pub none_past : (rs : Readers) (x : EndId) → length rs ≤ x.0 → to_come (reader_of rs x) ≡ []
none_past rs x past = ap to_come (get_or_past rs x.0 (Short []) past) ∙ empty_stopped

-- a reader of which nothing is to come, put in another's place
stopped : (rs : Readers) (i j : ℕ) (r : Reader) → to_come r ≡ [] → length (to_come (get_or (set rs j r) i (Short []))) ≤ length (to_come (get_or rs i (Short [])))
stopped [] i j r none = omega arith
stopped (q ∷ rs) zero zero r none = let few : length (to_come r) ≡ 0 = ap length none in omega (arith, few)
stopped (q ∷ rs) zero (suc j) r none = omega arith
stopped (q ∷ rs) (suc i) zero r none = omega arith
stopped (q ∷ rs) (suc i) (suc j) r none = stopped rs i j r none

linked_stopped : (r : Reader) → to_come (as_linked r) ≡ []
linked_stopped (Short pending) = refl
linked_stopped (Linked ended rest) = refl

fewer_open : (rs : Readers) (x : EndId) (closed : Option (EndId × Why)) → length (to_come (reader_of (open_readers rs closed) x)) ≤ length (to_come (reader_of rs x))
fewer_open rs x None = omega arith
fewer_open rs x (Some closed) = let y = closed.0 in stopped rs x.0 y.0 (Short []) empty_stopped

fewer_up : (rs : Readers) (x : EndId) (up : Bool) → length (to_come (reader_of (cond up (with_reader rs x (as_linked (reader_of rs x))) rs) x)) ≤ length (to_come (reader_of rs x))
fewer_up rs x true = stopped rs x.0 x.0 (as_linked (reader_of rs x)) (linked_stopped (reader_of rs x))
fewer_up rs x false = omega arith

pub fewer : (s : Standing) (x : EndId) (made : Result (Reply × NodeState) StepError) → length (to_come (reader_of (let t = after_frame s x made in t.readers) x)) ≤ length (to_come (reader_of s.readers x))
fewer s x (Err e) = stopped s.readers x.0 x.0 (Short []) empty_stopped
fewer s x (Ok made) =
    let r = made.0 in
    let others = fewer_open s.readers x r.closed in
    let up = fewer_up (open_readers s.readers r.closed) x (is_some r.up) in
    omega (arith, others, up)

-- room is made for one more
pub one_more_reader : (rs : Readers) (x : EndId) → length rs ≤ x.0 → readers_to (rs ++ Short [] ∷ []) x ≡ readers_to rs x
one_more_reader rs x few =
    let longer : length (rs ++ Short [] ∷ []) ≡ length rs + 1 = length_push rs (Short []) in
    let one : suc x.0 - length rs ≡ suc (suc x.0 - length (rs ++ Short [] ∷ [])) = omega (arith, longer, few) in
    append_assoc rs (Short [] ∷ []) (replicate (suc x.0 - length (rs ++ Short [] ∷ [])) (Short [])) ∙ ap (λ n. rs ++ replicate n (Short [])) (sym one)

-- there is room for an end
pub room : (rs : Readers) (x : EndId) → x.0 < length rs → readers_to rs x ≡ rs
room rs x many =
    let none : suc x.0 - length rs ≡ 0 = omega (arith, many) in
    ap (λ n. rs ++ replicate n (Short [])) none ∙ append-nil rs
