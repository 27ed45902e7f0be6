-- A part of a row of bytes is a row of bytes.
use Rattle.std.proofs.Common.{ℕ, suc, ◌+◌, ◌-◌, List, ◌∷◌, ◌++◌, length, take, drop, replicate, refl, arith, inl, inr, get_or-drop, get_or-take, length-take}
use Rattle.std.proofs.lemmas.{Bool.cases_lt, List.get_or_past, List.get_or-replicate, List.length-replicate, List.get_or_append_left, List.get_or-append_right}
use Rattle.dist_names.specs.Bytes.{IsBytes}

pub IsBytes-rest : (b : ℕ) (bytes : List ℕ) → IsBytes (b ∷ bytes) → IsBytes bytes
IsBytes-rest b bytes h i = h (suc i)

pub IsBytes-drop : (n : ℕ) (bytes : List ℕ) → IsBytes bytes → IsBytes (drop n bytes)
IsBytes-drop n bytes h i = rw get_or-drop (h (n + i))

pub IsBytes-take : (n : ℕ) (bytes : List ℕ) → IsBytes bytes → IsBytes (take n bytes)
IsBytes-take n bytes h i =
    elim (cases_lt i n) [
      | inl lt ↦ rw (get_or-take n bytes i 0 lt) (h i)
      | inr le ↦ rw (get_or_past (take n bytes) i 0 (omega (arith, length-take n bytes))) (omega arith)
    ]

pub IsBytes-append : (a b : List ℕ) → IsBytes a → IsBytes b → IsBytes (a ++ b)
IsBytes-append a b x y i =
    elim (cases_lt i (length a)) [
      | inl lt ↦ rw (get_or_append_left a b 0 i lt) (x i)
      | inr le ↦ rw (get_or-append_right a b (length a) i 0 refl le) (y (i - length a))
    ]

pub IsBytes-front : (a b : List ℕ) → IsBytes (a ++ b) → IsBytes a
IsBytes-front a b h i =
    elim (cases_lt i (length a)) [
      | inl lt ↦ rw (← get_or_append_left a b 0 i lt) (h i)
      | inr le ↦ rw (get_or_past a i 0 le) (omega arith)
    ]

abbrev pub zeros : ℕ → List ℕ
zeros n = replicate n 0

pub IsBytes-zeros : (n : ℕ) → IsBytes (zeros n)
IsBytes-zeros n i =
    elim (cases_lt i n) [
      | inl lt ↦ rw (get_or-replicate {A = ℕ} n i 0 0 lt) (omega arith)
      | inr le ↦ rw (get_or_past (zeros n) i 0 (omega (arith, length-replicate {A = ℕ} n 0))) (omega arith)
    ]
