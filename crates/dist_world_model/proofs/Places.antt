-- What stands at each place of a list after a change.
use Rattle.dist_world_model.proofs.Words.{◌≡◌, ℕ, zero, suc, ◌+◌, Bool, true, false, cond, eqb, ◌≢◌, ◌⊎◌, List, [], ◌∷◌, ◌++◌, length, slice_get, Some, None}
use Rattle.dist_world_model.proofs.Words.{Option, option_map, sym, refl, ap, ◌∙◌, subst, inl, inr, arith, eq-eqb, eqb-true, at_each, at_place, first_where}
use Rattle.std.proofs.Math.Dec.{eqb-suc-suc, eqb-suc-zero, eqb-zero-suc}

pub flip : {i j : ℕ} → i ≢ j → j ≢ i
flip n e = n (sym e)

pub eqb-self : (i : ℕ) → eqb i i ≡ true
eqb-self i = eq-eqb i i refl

pub get-each : {A : Type 0} (n : ℕ) (f : ℕ → A → A) (xs : List A) (j m : ℕ) → m ≡ n + j → slice_get (at_each n f xs) j ≡ option_map (f m) (slice_get xs j)
get-each n f [] j m h = refl
get-each n f (x ∷ xs) zero m h = let e : n ≡ m = omega arith in ap (λ k. Some (f k x)) e
get-each n f (x ∷ xs) (suc j) m h = get-each (suc n) f xs j m (omega arith)

pub get-place : {A : Type 0} (i : ℕ) (f : A → A) (xs : List A) (j : ℕ) → slice_get (at_place i f xs) j ≡ cond (eqb i j) (option_map f (slice_get xs j)) (slice_get xs j)
get-place {A = A} i f [] j = elim (eqb i j) as (λ b. ◌≡◌ {A = Option A} None (cond b None None)) [ true ↦ refl | false ↦ refl ]
get-place zero f (x ∷ xs) zero = refl
get-place zero f (x ∷ xs) (suc j) = sym (ap (λ b. cond b (option_map f (slice_get xs j)) (slice_get xs j)) (eqb-zero-suc j))
get-place (suc i) f (x ∷ xs) zero = sym (ap (λ b. cond b (Some (f x)) (Some x)) (eqb-suc-zero i))
get-place (suc i) f (x ∷ xs) (suc j) = get-place i f xs j ∙ sym (ap (λ b. cond b (option_map f (slice_get xs j)) (slice_get xs j)) (eqb-suc-suc i j))

pub get-more : {A : Type 0} (xs : List A) (x : A) (j : ℕ) → slice_get (xs ++ x ∷ []) j ≡ cond (eqb (length xs) j) (Some x) (slice_get xs j)
get-more [] x zero = refl
get-more [] x (suc j) = sym (ap (λ b. cond b (Some x) None) (eqb-zero-suc j))
get-more (y ∷ xs) x zero = sym (ap (λ b. cond b (Some x) (Some y)) (eqb-suc-zero (length xs)))
get-more (y ∷ xs) x (suc j) = get-more xs x j ∙ sym (ap (λ b. cond b (Some x) (slice_get xs j)) (eqb-suc-suc (length xs) j))

-- what stands in a list that was changed at one place
pub at-one : {A : Type 0} (P : ℕ → A → Type 0) (i : ℕ) (f : A → A) (xs : List A) → ((x : A) → slice_get xs i ≡ Some x → P i (f x)) → ((j : ℕ) (x : A) → slice_get xs j ≡ Some x → P j x)
    → (j : ℕ) (y : A) → slice_get (at_place i f xs) j ≡ Some y → P j y
at-one P i f xs new old j y h =
    elim (eqb i j) as (λ b. eqb i j ≡ b → cond b (option_map f (slice_get xs j)) (slice_get xs j) ≡ Some y → P j y) [
      | true ↦ λ b e. let Q : ℕ → Type 0 = λ k. P k y in subst Q (eqb-true i j b) (by (slice_get xs j) (ap (slice_get xs) (eqb-true i j b)) e)
      | false ↦ λ b e. old j y e
    ] refl (sym (get-place i f xs j) ∙ h)
  where
    by : (o : Option _) → slice_get xs i ≡ o → option_map f o ≡ Some y → P i y
    by None at e = absurd cc
    by (Some x) at e = let same : f x ≡ y = cc in subst (P i) same (new x at)

-- what stands in a list that got one more
pub at-more : {A : Type 0} (P : ℕ → A → Type 0) (xs : List A) (x : A) → P (length xs) x → ((j : ℕ) (y : A) → slice_get xs j ≡ Some y → P j y)
    → (j : ℕ) (y : A) → slice_get (xs ++ x ∷ []) j ≡ Some y → P j y
at-more P xs x new old j y h =
    elim (eqb (length xs) j) as (λ b. eqb (length xs) j ≡ b → cond b (Some x) (slice_get xs j) ≡ Some y → P j y) [
      | true ↦ λ b e. let same : x ≡ y = cc in let Q : ℕ → Type 0 = λ k. P k y in subst Q (eqb-true (length xs) j b) (subst (P (length xs)) same new)
      | false ↦ λ b e. old j y e
    ] refl (sym (get-more xs x j) ∙ h)

pub one-more : {A : Type 0} (xs : List A) (x : A) (j : ℕ) (y : A) → slice_get (xs ++ x ∷ []) j ≡ Some y → (slice_get xs j ≡ Some y) ⊎ ((j ≡ length xs) × (x ≡ y))
one-more xs x = at-more (λ j y. (slice_get xs j ≡ Some y) ⊎ ((j ≡ length xs) × (x ≡ y))) xs x (inr (refl, refl)) (λ j y e. inl e)

pub before-map : {A B : Type 0} (f : A → B) (o : Option A) (y : B) → option_map f o ≡ Some y → (x : A) × (o ≡ Some x) × (y ≡ f x)
before-map f None y e = absurd cc
before-map f (Some x) y e = (x, refl, (let h : y ≡ f x = cc in h))

-- the first that passes is there and passes
pub first-at : {A : Type 0} (test : A → Bool) (xs : List A) (i : ℕ) → first_where test xs ≡ Some i → (x : A) × (slice_get xs i ≡ Some x) × (test x ≡ true)
first-at test [] i h = absurd cc
first-at test (y ∷ xs) i h =
    elim (test y) as (λ b. test y ≡ b → cond b (Some 0) (option_map suc (first_where test xs)) ≡ Some i → (x : _) × (slice_get (y ∷ xs) i ≡ Some x) × (test x ≡ true)) [
      | true ↦ λ b e. let z : 0 ≡ i = cc in (y, ap (slice_get (y ∷ xs)) (sym z), b)
      | false ↦ λ b e. let k = before-map suc (first_where test xs) i e in let g = first-at test xs k.0 k.1 in (g.0, ap (slice_get (y ∷ xs)) k.2 ∙ g.1, g.2)
    ] refl h
