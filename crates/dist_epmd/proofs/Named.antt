-- Where each row stands at its name, rows are found, put and dropped as in a list in order of names.
use Rattle.dist_epmd.proofs.Words.{◌≡◌, ℕ, Bool, true, false, cond, ◌||◌, List, [], ◌∷◌, is_some, Some, filter, Option, Vec, find, is_eq, sym, refl, ap, ◌∙◌}
use Rattle.dist_epmd.proofs.Words.{ap₂, or_parts, insert_entry, list_any, lookup, values_of, match_ordering, IsAtItsName, StandAtNames, is_named, with_row, Row}
use Rattle.dist_epmd.proofs.Legal.{compared, named_is, row_first, row_later}
use Rattle.std.specs.declared.cmp.Ordering.TheVariants.{Less, Equal, Greater}

pub at_name : {Z : Type 0} (name : List ℕ) (e : Vec ℕ Z × Row) → IsAtItsName e → is_eq (compared name e.0.items) ≡ is_named name e.1
at_name name e own = ap (λ k. is_eq (compared name k)) own ∙ named_is name e.1.info.name

-- ---- lookups

pub found_at_name : {Z : Type 0} (name : List ℕ) (es : List (Vec ℕ Z × Row)) → StandAtNames es → lookup (λ k. is_eq (compared name k.items)) es ≡ find (is_named name) (values_of es)
found_at_name name [] own = refl
found_at_name name (e ∷ es) own = ap₂ (λ (b : Bool) (r : Option Row). cond b (Some e.1) r) (at_name name e own.0) (found_at_name name es own.1)

some_is_any : (name : List ℕ) (rows : List Row) → is_some (find (is_named name) rows) ≡ list_any (is_named name) rows
some_is_any name [] = refl
some_is_any name (row ∷ rows) =
    let more = some_is_any name rows in
    elim (is_named name row) as (λ b. is_some (cond b (Some row) (find (is_named name) rows)) ≡ (b || list_any (is_named name) rows)) [ true ↦ refl | false ↦ more ]

pub has_at_name : {Z : Type 0} (name : List ℕ) (es : List (Vec ℕ Z × Row)) → StandAtNames es → is_some (lookup (λ k. is_eq (compared name k.items)) es) ≡ list_any (is_named name) (values_of es)
has_at_name name es own = ap is_some (found_at_name name es own) ∙ some_is_any name (values_of es)

-- ---- a row put at its name

module _ {Z : Type 0} (key : Vec ℕ Z) (row : Row) (at : key.items ≡ row.info.name) where
  abbrev put_in : List (Vec ℕ Z × Row) → List (Vec ℕ Z × Row)
  put_in es = insert_entry (λ a b. compared a.items b.items) es key row

  pub put_rows : (es : List (Vec ℕ Z × Row)) → StandAtNames es → list_any (is_named row.info.name) (values_of es) ≡ false
      → (values_of (put_in es) ≡ with_row row (values_of es)) × StandAtNames (put_in es)
  put_rows [] own none = (refl, (at, tt))
  put_rows (e ∷ es) own none =
      let n = or_parts (is_named row.info.name e.1) (list_any (is_named row.info.name) (values_of es)) none in
      let more = put_rows es own.1 n.1 in
      let same : compared key.items e.0.items ≡ compared row.info.name e.1.info.name = ap₂ compared at own.0 in
      let P : List (Vec ℕ Z × Row) → Type 0 = λ l. (values_of l ≡ with_row row (e.1 ∷ values_of es)) × StandAtNames l in
      elim (compared key.items e.0.items) as (λ o. compared key.items e.0.items ≡ o → P (match_ordering o ((key, row) ∷ e ∷ es) ((e.0, row) ∷ es) (e ∷ put_in es))) [
        | Less ↦ λ h. (sym (row_first row e.1 (values_of es) (sym same ∙ h)), (at, own))
        | Equal ↦ λ h. let t : true ≡ false = sym (ap is_eq (sym same ∙ h)) ∙ named_is row.info.name e.1.info.name ∙ n.0 in absurd cc
        | Greater ↦ λ h. (ap (λ l. e.1 ∷ l) more.0 ∙ sym (row_later row e.1 (values_of es) (sym same ∙ h)), (own.0, more.1))
      ] refl

-- ---- rows dropped

pub dropped_rows : {Z : Type 0} (test : Row → Bool) (es : List (Vec ℕ Z × Row)) → StandAtNames es → (values_of (filter (λ e. test e.1) es) ≡ filter test (values_of es)) × StandAtNames (filter (λ e. test e.1) es)
dropped_rows test [] own = (refl, tt)
dropped_rows test (e ∷ es) own =
    let more = dropped_rows test es own.1 in
    elim (test e.1) as (λ v. (values_of (cond v (e ∷ filter (λ x. test x.1) es) (filter (λ x. test x.1) es)) ≡ cond v (e.1 ∷ filter test (values_of es)) (filter test (values_of es))) × StandAtNames (cond v (e ∷ filter (λ x. test x.1) es) (filter (λ x. test x.1) es))) [
      | true ↦ (ap (λ l. e.1 ∷ l) more.0, (own.0, more.1))
      | false ↦ more
    ]
