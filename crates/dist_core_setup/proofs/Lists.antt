-- Names in a list to which one was added, or from which one was taken.
use mathlib.Core.Bool.{or-true}
use Rattle.std.proofs.Common.{◌≡◌, Bool, true, false, not, cond, ◌||◌, List, [], ◌∷◌, ◌++◌, refl, sym, ap, ◌∙◌, subst}
use Rattle.dist_names.specs.Order.{Name, same_name, is_listed}
use Rattle.dist_names.proofs.Orders.{one_lem, itself_lem}
use Rattle.dist_core_setup.specs.Changing.{without_name}

pub listed-last : (names : List Name) (p : Name) → is_listed (names ++ (p ∷ [])) p ≡ true
listed-last [] p = ap (λ b. b || false) (itself_lem p)
listed-last (x ∷ xs) p = ap (λ b. same_name p x || b) (listed-last xs p) ∙ or-true (same_name p x)

gone-at : (p x : Name) (xs : List Name) (b : Bool) → same_name p x ≡ b → is_listed (without_name xs p) p ≡ false → is_listed (cond (not b) (x ∷ without_name xs p) (without_name xs p)) p ≡ false
gone-at p x xs true e more = more
gone-at p x xs false e more = ap (λ b. b || is_listed (without_name xs p) p) e ∙ more

pub gone-without : (names : List Name) (p : Name) → is_listed (without_name names p) p ≡ false
gone-without [] p = refl
gone-without (x ∷ xs) p = gone-at p x xs (same_name p x) refl (gone-without xs p)

others-at : (p q x : Name) (xs : List Name) (b : Bool) → same_name p x ≡ b → same_name q p ≡ false → is_listed (without_name xs p) q ≡ is_listed xs q
    → is_listed (cond (not b) (x ∷ without_name xs p) (without_name xs p)) q ≡ (same_name q x || is_listed xs q)
others-at p q x xs true e h more =
    let off : same_name q x ≡ false = subst (λ (y : Name). same_name q y ≡ false) (one_lem p x e) h in
    more ∙ sym (ap (λ b. b || is_listed xs q) off)
others-at p q x xs false e h more = ap (λ b. same_name q x || b) more

pub others-without : (names : List Name) (p q : Name) → same_name q p ≡ false → is_listed (without_name names p) q ≡ is_listed names q
others-without [] p q h = refl
others-without (x ∷ xs) p q h = others-at p q x xs (same_name p x) refl h (others-without xs p q h)
