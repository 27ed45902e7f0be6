-- What single loops of readers keep.
use Rattle.std.proofs.Common.{◌≡◌, ℕ, suc, ◌+◌, ◌-◌, ◌<◌, ◌≤◌, Bool, true, false, List, [], ◌∷◌, length, get_or, Option, Some, None, option_map, refl, ap, arith}
use Rattle.std.specs.Prelude.{◌==◌, ◌&&◌, nat_lt, if◌then◌else◌}
use Rattle.dist_conformance.specs.Bodies.{behind_tick, behind_ticks}

-- ---- the field in one place

-- the value that came, where the place is passed, or else the one in this place of those that are left
abbrev pub chosen : ℕ → ℕ → List ℕ → Option (List (List ℕ)) → Option (List ℕ)
chosen place k value there = option_map (λ (vs : List (List ℕ)). if nat_lt place k then value else get_or vs (place - k) value) there

pub chosen_first : (place : ℕ) (there : Option (List (List ℕ))) → chosen place 0 [] there ≡ option_map (λ (vs : List (List ℕ)). get_or vs place []) there
chosen_first place None = refl
chosen_first place (Some vs) = let same : place - 0 ≡ place = omega arith in let not_below : nat_lt place 0 ≡ false = grind arith in rw (not_below, same) refl

at_place : (place k : ℕ) (value v : List ℕ) (vs : List (List ℕ)) → (place ≡ k) → (if nat_lt place k then value else get_or (v ∷ vs) (place - k) value) ≡ (if nat_lt place (k + 1) then v else get_or vs (place - (k + 1)) v)
at_place place k value v vs e =
    let not_below : nat_lt place k ≡ false = grind (arith, e) in
    let below : nat_lt place (k + 1) ≡ true = grind (arith, e) in
    let none : place - k ≡ 0 = omega (arith, e) in rw (not_below, below, none) refl

elsewhere : (place k : ℕ) (value v : List ℕ) (vs : List (List ℕ)) → (place ≡ k → ⊥) → (if nat_lt place k then value else get_or (v ∷ vs) (place - k) value) ≡ (if nat_lt place (k + 1) then value else get_or vs (place - (k + 1)) value)
elsewhere place k value v vs e =
    (elim (nat_lt place k) as (λ b. nat_lt place k ≡ b → (if b then value else get_or (v ∷ vs) (place - k) value) ≡ (if nat_lt place (k + 1) then value else get_or vs (place - (k + 1)) value)) [
      | true ↦ λ is. let below : nat_lt place (k + 1) ≡ true = grind (arith, is) in rw below refl
      | false ↦ λ is.
          let high : k ≤ place = grind (arith, is) in
          let higher : k < place = omega (arith, high, e) in
          let not_below : nat_lt place (k + 1) ≡ false = grind (arith, higher) in
          let next : place - k ≡ suc (place - (k + 1)) = omega (arith, higher) in rw (not_below, next) refl
    ]) refl

pub chosen_here : (place k : ℕ) (value v : List ℕ) (there : Option (List (List ℕ))) → place ≡ k → chosen place k value (option_map (λ (vs : List (List ℕ)). v ∷ vs) there) ≡ chosen place (k + 1) v there
chosen_here place k value v None e = refl
chosen_here place k value v (Some vs) e = ap (λ x. Some x) (at_place place k value v vs e)

pub chosen_later : (place k : ℕ) (value v : List ℕ) (there : Option (List (List ℕ))) → (place ≡ k → ⊥) → chosen place k value (option_map (λ (vs : List (List ℕ)). v ∷ vs) there) ≡ chosen place (k + 1) value there
chosen_later place k value v None e = refl
chosen_later place k value v (Some vs) e = ap (λ x. Some x) (elsewhere place k value v vs e)

pub chosen_last : (place k : ℕ) (value : List ℕ) → chosen place k value (Some []) ≡ Some value
chosen_last place k value = (elim (nat_lt place k) as (λ b. Some (if b then value else get_or [] (place - k) value) ≡ Some value) [ true ↦ refl | false ↦ refl ])

-- ---- ticks in front

pub record PassesTick (s r : List ℕ) : Type 0 where
  pub shorter : length r < length s
  pub same : behind_ticks s ≡ behind_ticks r

by_zeros : (a b c d : ℕ) (rest r : List ℕ) (x : Bool) → ((a == 0 && b == 0) && (c == 0 && d == 0)) ≡ x → (if x then Some rest else None) ≡ Some r → PassesTick (a ∷ b ∷ c ∷ d ∷ rest) r
by_zeros a b c d rest r true is e = let same : rest ≡ r = cc in record { shorter = omega (arith, ap (λ (l : List ℕ). length l) same); same = rw is (ap behind_ticks same) }
by_zeros a b c d rest r false is e = absurd cc

pub passes_tick : (s r : List ℕ) → behind_tick s ≡ Some r → PassesTick s r
passes_tick (a ∷ b ∷ c ∷ d ∷ rest) r e = by_zeros a b c d rest r ((a == 0 && b == 0) && (c == 0 && d == 0)) refl e
passes_tick [] r e = absurd cc
passes_tick (a ∷ []) r e = absurd cc
passes_tick (a ∷ b ∷ []) r e = absurd cc
passes_tick (a ∷ b ∷ c ∷ []) r e = absurd cc

by_others : (a b c d : ℕ) (rest : List ℕ) (x : Bool) → ((a == 0 && b == 0) && (c == 0 && d == 0)) ≡ x → (if x then Some rest else None) ≡ None → (if x then behind_ticks rest else a ∷ b ∷ c ∷ d ∷ rest) ≡ a ∷ b ∷ c ∷ d ∷ rest
by_others a b c d rest true is e = absurd cc
by_others a b c d rest false is e = refl

pub no_tick : (s : List ℕ) → behind_tick s ≡ None → behind_ticks s ≡ s
no_tick (a ∷ b ∷ c ∷ d ∷ rest) e = by_others a b c d rest ((a == 0 && b == 0) && (c == 0 && d == 0)) refl e
no_tick [] e = refl
no_tick (a ∷ []) e = refl
no_tick (a ∷ b ∷ []) e = refl
no_tick (a ∷ b ∷ c ∷ []) e = refl
