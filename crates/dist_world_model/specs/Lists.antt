-- Words on lists.
use Rattle.std.specs.Prelude.{if◌then◌else◌, ◌∷◌, ◌++◌}
use Rattle.dist_world_model.specs.Words.{ℕ, zero, suc, Bool, List, [], Option, Some, None, option_map}

-- the list with f done at one place
abbrev pub at_place : {A : Type 0} → ℕ → (A → A) → List A → List A
at_place i f [] = []
at_place zero f (x ∷ xs) = f x ∷ xs
at_place (suc i) f (x ∷ xs) = x ∷ at_place i f xs

-- the list with f done at each place, f being given the place
abbrev pub at_each : {A : Type 0} → ℕ → (ℕ → A → A) → List A → List A
at_each i f [] = []
at_each i f (x ∷ xs) = f i x ∷ at_each (suc i) f xs

-- the list with one more at its end, where there is one
abbrev pub add_some : {A : Type 0} → List A → Option A → List A
add_some xs None = xs
add_some xs (Some x) = xs ++ x ∷ []

-- the first place whose item passes the test
abbrev pub first_where : {A : Type 0} → (A → Bool) → List A → Option ℕ
first_where test [] = None
first_where test (x ∷ xs) = if test x then Some 0 else option_map suc (first_where test xs)
