-- The names of setups.
use Rattle.std.proofs.{Common.below_more, Common.get_or, lemmas.Bool.or_right, lemmas.Option.slice_get-get_or}
use Rattle.dist_core.proofs.Words.{◌≡◌, ℕ, zero, suc, ◌+◌, ◌<◌, true, false, ◌||◌, List, [], ◌∷◌, length, drop, slice_get, Some, sym, refl, ap, ◌∙◌, subst}
use Rattle.dist_core.proofs.Words.{arith, or_parts, Name, same_name, Setup}
use Rattle.dist_world_model.specs.Agreement.{IsSetup}
use Rattle.dist_world.specs.Setups.{is_named, names_repeat}

pub known_more : (ss : List Setup) (i : ℕ) (d : Setup) → i < length ss → d ≡ get_or ss i d → IsSetup d → ((k : ℕ) (s : Setup) → k < i → slice_get ss k ≡ Some s → IsSetup s) → (k : ℕ) (s : Setup) → k < i + 1 → slice_get ss k ≡ Some s → IsSetup s
known_more ss i d few is good so_far k s lt at =
    let P : ℕ → Type 0 = λ n. (r : Setup) → slice_get ss n ≡ Some r → IsSetup r in
    let here : P i = λ r e. (let same : Some (get_or ss i d) ≡ Some r = sym (slice_get-get_or ss i d few) ∙ e in let one : get_or ss i d ≡ r = cc in subst IsSetup (is ∙ one) good) in
    below_more P i (λ n l r e. so_far n r l e) here k lt s at

-- names that are one compare as equal (order_of_names)
abbrev pub IsItself : Type 0
IsItself = (name : Name) → same_name name name ≡ true

none_named : IsItself → (ss : List Setup) (n : Name) (j : ℕ) (r : Setup) → is_named ss n ≡ false → slice_get ss j ≡ Some r → r.name ≡ n → ⊥
none_named itself [] n j r un at e = absurd cc
none_named itself (x ∷ ss) n zero r un at e =
    let same : x ≡ r = cc in
    let yes : same_name x.name n ≡ true = ap (λ m. same_name m n) (ap (λ (s : Setup). s.name) same ∙ e) ∙ itself n in
    let not_so : same_name x.name n ≡ false = (or_parts (same_name x.name n) (is_named ss n) un).0 in
    absurd cc
none_named itself (x ∷ ss) n (suc j) r un at e = none_named itself ss n j r (or_parts (same_name x.name n) (is_named ss n) un).1 at e

pub distinct : IsItself → (ss : List Setup) → names_repeat ss ≡ false → (i j : ℕ) (s r : Setup) → slice_get ss i ≡ Some s → slice_get ss j ≡ Some r → s.name ≡ r.name → i ≡ j
distinct itself [] un i j s r a b e = absurd cc
distinct itself (x ∷ ss) un zero zero s r a b e = refl
distinct itself (x ∷ ss) un zero (suc j) s r a b e =
    let same : x ≡ s = cc in
    absurd (none_named itself ss x.name j r (or_parts (is_named ss x.name) (names_repeat ss) un).0 b (sym e ∙ sym (ap (λ (t : Setup). t.name) same)))
distinct itself (x ∷ ss) un (suc i) zero s r a b e =
    let same : x ≡ r = cc in
    absurd (none_named itself ss x.name i s (or_parts (is_named ss x.name) (names_repeat ss) un).0 a (e ∙ sym (ap (λ (t : Setup). t.name) same)))
distinct itself (x ∷ ss) un (suc i) (suc j) s r a b e = ap suc (distinct itself ss (or_parts (is_named ss x.name) (names_repeat ss) un).1 i j s r a b e)

-- one of those behind has the name of this one
pub named_behind : (ss : List Setup) (i : ℕ) (d : Setup) → i < length ss → is_named (drop (suc i) ss) (get_or ss i d).name ≡ true → names_repeat ss ≡ true
named_behind [] i d few e = absurd (omega arith)
named_behind (x ∷ ss) zero d few e = ap (λ b. b || names_repeat ss) e
named_behind (x ∷ ss) (suc i) d few e =
    let fewer : i < length ss = omega arith in
    or_right (is_named ss x.name) (names_repeat ss) (named_behind ss i d fewer e)
