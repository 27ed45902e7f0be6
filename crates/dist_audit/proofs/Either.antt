-- One test or another, over lists.
use Rattle.dist_audit.proofs.Words.{◌≡◌, Bool, ◌||◌, List, [], ◌∷◌, refl, list_any}
use Rattle.std.specs.List.{IsDistinct}

pub any-same : {X : Type 0} (p q : X → Bool) → ((x : X) → p x ≡ q x) → (xs : List X) → list_any p xs ≡ list_any q xs
any-same p q e [] = refl
any-same p q e (x ∷ xs) = (λ i. e x i || any-same p q e xs i)

-- none of no things are alike
pub distinct-none : {K : Type 0} (e : K → K → Bool) → IsDistinct e []
unfolding IsDistinct
distinct-none e = tt
