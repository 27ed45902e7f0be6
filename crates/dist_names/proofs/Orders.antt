-- The order of names, by the bytes in front.
use Rattle.std.proofs.Common.{◌≡◌, ◌<◌, Bool, true, [], ◌∷◌, ◌++◌, refl, sym, ap, subst, ◌∙◌, ℕ, ◌↔◌, IsTrue, is_eq}
use Rattle.std.proofs.lemmas.Map.Lookups.{exact_bytes}
use Rattle.std.specs.{Cmp.nat_cmp_is, Ordering.ordering_then}
use Rattle.std.specs.declared.cmp.{Ordering.Ordering, Ordering.TheVariants.Less, Ordering.TheVariants.Equal, Ordering.TheVariants.Greater}
use Rattle.dist_names.specs.Order.{Name, name_cmp, same_name}

-- a common front does not decide
front_alike : (front ours theirs : Name) → name_cmp (front ++ ours) (front ++ theirs) ≡ name_cmp ours theirs
front_alike [] ours theirs = refl
front_alike (b ∷ front) ours theirs =
    ap (λ o. ordering_then o (name_cmp (front ++ ours) (front ++ theirs))) (sym (nat_cmp_is b b Equal refl))
    ∙ front_alike front ours theirs

pub differing_lem : (front ours theirs : Name) (low high : ℕ) → low < high → name_cmp (front ++ low ∷ ours) (front ++ high ∷ theirs) ≡ Less
differing_lem front ours theirs low high h =
    front_alike front (low ∷ ours) (high ∷ theirs)
    ∙ ap (λ o. ordering_then o (name_cmp ours theirs)) (sym (nat_cmp_is low high Less h))

pub prefix_lem : (front more : Name) (next : ℕ) → name_cmp front (front ++ next ∷ more) ≡ Less
prefix_lem [] more next = refl
prefix_lem (b ∷ front) more next =
    ap (λ o. ordering_then o (name_cmp front (front ++ next ∷ more))) (sym (nat_cmp_is b b Equal refl))
    ∙ prefix_lem front more next

is_equal : (o : Ordering) → is_eq o ≡ true → o ≡ Equal
is_equal Less h = absurd cc
is_equal Equal h = refl
is_equal Greater h = absurd cc

pub one_lem : (ours theirs : Name) → same_name ours theirs ≡ true → ours ≡ theirs
one_lem ours theirs h = exact_bytes ours theirs (is_equal (name_cmp ours theirs) h)

equal_itself : (name : Name) → name_cmp name name ≡ Equal
equal_itself [] = refl
equal_itself (b ∷ name) = ap (λ o. ordering_then o (name_cmp name name)) (sym (nat_cmp_is b b Equal refl)) ∙ equal_itself name

pub itself_lem : (name : Name) → same_name name name ≡ true
itself_lem name = ap is_eq (equal_itself name)

-- two names compare as equal exactly where they are the same name
pub same_each : (ours theirs : Name) → IsTrue (same_name ours theirs) ↔ (ours ≡ theirs)
same_each ours theirs = (one_lem ours theirs, λ e. subst (λ (name : Name). IsTrue (same_name ours name)) e (itself_lem ours))

-- the same of what a call answered
pub answered_each : (ours theirs : Name) (answer : Bool) → answer ≡ same_name ours theirs → IsTrue answer ↔ (ours ≡ theirs)
answered_each ours theirs answer e = subst (λ (b : Bool). IsTrue b ↔ (ours ≡ theirs)) (sym e) (same_each ours theirs)
