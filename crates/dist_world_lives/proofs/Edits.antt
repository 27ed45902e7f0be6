-- A list that is changed at places.
use Rattle.dist_core_ends.proofs.Words.{◌≡◌, ℕ, zero, suc, ◌+◌, ◌<◌, ◌≤◌, Bool, true, false, List, [], ◌∷◌, ◌++◌, length, get_or, take, drop, set, ◌==◌}
use Rattle.dist_core_ends.proofs.Words.{slice_get, Some, None, Option, option_map, refl, ap, ◌∙◌, arith, nat_tests}
use Rattle.dist_world_model.specs.{Happenings.shut_row, Happenings.shut_all, Lists.at_each, Lists.at_place, Rows.EndRow}

apart_first : (j : ℕ) → false ≡ (0 == suc j)
apart_first j = grind (arith, nat_tests)

apart_second : (i : ℕ) → false ≡ (suc i == 0)
apart_second i = grind (arith, nat_tests)

one_more : (i j : ℕ) → (i == j) ≡ (suc i == suc j)
one_more i j = grind (arith, nat_tests)

module _ {A : Type 0} where
  pub at_set : (f : A → A) (xs : List A) (i : ℕ) (x : A) → i < length xs → x ≡ get_or xs i x → set xs i (f x) ≡ at_place i f xs
  at_set f [] i x few is = absurd (omega arith)
  at_set f (y ∷ xs) zero x few is = ap (λ z. f z ∷ xs) is
  at_set f (y ∷ xs) (suc i) x few is = ap (λ zs. y ∷ zs) (at_set f xs i x (omega arith) is)

  pub at_past : (f : A → A) (xs : List A) (i : ℕ) → length xs ≤ i → xs ≡ at_place i f xs
  at_past f [] i past = refl
  at_past f (y ∷ xs) zero past = absurd (omega arith)
  at_past f (y ∷ xs) (suc i) past = ap (λ zs. y ∷ zs) (at_past f xs i (omega arith))

  -- two lists are one that have the same at each place
  pub same_places : (xs ys : List A) → ((i : ℕ) → slice_get xs i ≡ slice_get ys i) → xs ≡ ys
  same_places [] [] h = refl
  same_places [] (y ∷ ys) h = let e : None ≡ Some y = h 0 in cc
  same_places (x ∷ xs) [] h = let e : Some x ≡ None = h 0 in cc
  same_places (x ∷ xs) (y ∷ ys) h =
      let e : Some x ≡ Some y = h 0 in
      let head : x ≡ y = cc in
      let rest : xs ≡ ys = same_places xs ys (λ i. h (suc i)) in
      λ i. head i ∷ rest i

  -- what stands at a place once one was changed
  abbrev pub changed_if : Bool → (A → A) → A → A
  changed_if true f x = f x
  changed_if false f x = x

  pub unchanged : (f : A → A) (o : Option A) → o ≡ option_map (changed_if false f) o
  unchanged f None = refl
  unchanged f (Some x) = refl

  pub get_at : (f : A → A) (xs : List A) (i j : ℕ) → slice_get (at_place i f xs) j ≡ option_map (changed_if (i == j) f) (slice_get xs j)
  get_at f [] i j = refl
  get_at f (x ∷ xs) zero zero = refl
  get_at f (x ∷ xs) zero (suc j) = let e : false ≡ (0 == suc j) = apart_first j in unchanged f (slice_get xs j) ∙ ap (λ b. option_map (changed_if b f) (slice_get xs j)) e
  get_at f (x ∷ xs) (suc i) zero = let e : false ≡ (suc i == 0) = apart_second i in ap (λ b. Some (changed_if b f x)) e
  get_at f (x ∷ xs) (suc i) (suc j) = let e : (i == j) ≡ (suc i == suc j) = one_more i j in get_at f xs i j ∙ ap (λ b. option_map (changed_if b f) (slice_get xs j)) e

  pub get_each : (f : ℕ → A → A) (xs : List A) (k j : ℕ) → slice_get (at_each k f xs) j ≡ option_map (f (k + j)) (slice_get xs j)
  get_each f [] k j = refl
  get_each f (x ∷ xs) k zero = let e : k ≡ k + 0 = omega arith in ap (λ n. Some (f n x)) e
  get_each f (x ∷ xs) k (suc j) = let e : suc k + j ≡ k + suc j = omega arith in get_each f xs (suc k) j ∙ ap (λ n. option_map (f n) (slice_get xs j)) e

-- the rows up to a place are shut
pub shut_more : (t : ℕ) (rows : List EndRow) (i : ℕ) (d : EndRow) → i < length rows → set (shut_all t (take i rows) ++ drop i rows) i (shut_row t (get_or (shut_all t (take i rows) ++ drop i rows) i d)) ≡ shut_all t (take (suc i) rows) ++ drop (suc i) rows
shut_more t [] i d few = absurd (omega arith)
shut_more t (y ∷ rows) zero d few = refl
shut_more t (y ∷ rows) (suc i) d few = ap (λ zs. shut_row t y ∷ zs) (shut_more t rows i d (omega arith))
