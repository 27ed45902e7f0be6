-- Rows that are inserted one after the other, in order, stand in order.
use Rattle.std.proofs.Common.{◌≡◌, ℕ, List, [], ◌∷◌, ◌++◌, refl, sym, ap, ◌∙◌, subst, append_assoc}
use Rattle.std.proofs.lemmas.Map.Keys.{sorted_head, sorted_tail}
use Rattle.std.specs.{BTreeMap.insert_entry, Cmp.IsTotalOrder, Cmp.Lexicographic.nat_list_cmp_total, List.AllByRecursion, List.Sorted.IsStrictlySortedBy}
use Rattle.std.specs.{Map.keys_of, Ordering.match_ordering, Ordering.ordering_reverse}
use Rattle.std.specs.declared.cmp.Ordering.TheVariants.{Less, Greater}
use Rattle.dist_names.specs.Order.{Name, name_cmp}

abbrev Row : Type 0
Row = Name × List ℕ

order : IsTotalOrder name_cmp
order = nat_list_cmp_total

-- what holds of all names holds of one among them
among : (P : Name → Type 0) (xs ys : List Row) (e : Row) → AllByRecursion P (keys_of (xs ++ e ∷ ys)) → P (e.0)
among P [] ys e all = all.0
among P (x ∷ xs) ys e all = among P xs ys e (all.1)

-- a row that stands behind these is inserted behind them
last : (xs ys : List Row) (e : Row) → IsStrictlySortedBy name_cmp (keys_of (xs ++ e ∷ ys)) → insert_entry name_cmp xs (e.0) (e.1) ≡ xs ++ e ∷ []
last [] ys e s = refl
last (x ∷ xs) ys e s =
    let below : name_cmp (x.0) (e.0) ≡ Less = among (λ q. name_cmp (x.0) q ≡ Less) xs ys e (sorted_head name_cmp (x.0) (keys_of (xs ++ e ∷ ys)) s) in
    let above : name_cmp (e.0) (x.0) ≡ Greater = order.antisymm (e.0) (x.0) ∙ ap ordering_reverse below in
    ap (λ o. match_ordering o (e ∷ x ∷ xs) ((x.0, e.1) ∷ xs) (x ∷ insert_entry name_cmp xs (e.0) (e.1))) above
    ∙ ap (λ (l : List Row). x ∷ l) (last xs ys e (sorted_tail name_cmp (x.0) (keys_of (xs ++ e ∷ ys)) s))

-- ONE ROW MORE IS COPIED: what was copied and what is left are still all rows
pub one_more : (all copy after left : List Row) (e : Row) → IsStrictlySortedBy name_cmp (keys_of all) → copy ++ e ∷ left ≡ all → after ≡ insert_entry name_cmp copy (e.0) (e.1) → after ++ left ≡ all
one_more all copy after left e s whole is =
    let sorted : IsStrictlySortedBy name_cmp (keys_of (copy ++ e ∷ left)) = subst (λ (rows : List Row). IsStrictlySortedBy name_cmp (keys_of rows)) (sym whole) s in
    ap (λ (rows : List Row). rows ++ left) (is ∙ last copy left e sorted) ∙ append_assoc copy (e ∷ []) left ∙ whole

-- the same for the first row of those that are left
pub next_more : (all copy after before left : List Row) (row : Row) (name cookie : List ℕ) → IsStrictlySortedBy name_cmp (keys_of all)
    → copy ++ before ≡ all → before ≡ row ∷ left → name ≡ row.0 → cookie ≡ row.1 → after ≡ insert_entry name_cmp copy name cookie → after ++ left ≡ all
next_more all copy after before left row name cookie s whole next n k is =
    one_more all copy after left row s (ap (λ (rows : List Row). copy ++ rows) (sym next) ∙ whole)
    (is ∙ ap (λ q. insert_entry name_cmp copy q cookie) n ∙ ap (λ q. insert_entry name_cmp copy (row.0) q) k)
