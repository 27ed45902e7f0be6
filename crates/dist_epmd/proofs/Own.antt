-- A name and a connection have one row at most, and it is all that is dropped where the connection is closed.
use Rattle.dist_epmd.proofs.Words.{◌≡◌, ℕ, Bool, true, false, cond, not, ◌&&◌, ◌||◌, ◌⊎◌, List, [], ◌∷◌, Some, filter, Vec, option_map, find, is_eq, sym, refl}
use Rattle.dist_epmd.proofs.Words.{ap, ◌∙◌, inl, inr, ⊎_elim, ne_eqb, eqb-true, and_left, and_right, both_ways, cases_Bool, cond_both, or_cases, or_from}
use Rattle.dist_epmd.proofs.Words.{or_left, or_parts, bytes_eq-Decides, AllByRecursion, list_any, remove_entry, values_of, option_map_or, StandAtNames, InOrder}
use Rattle.dist_epmd.proofs.Words.{Precedes, Registrations, after_closed, after_closed_as, is_named, is_of, is_own, registered_name, Row}
use Rattle.dist_epmd.proofs.{Legal.compared, Legal.named_is, Named.at_name}

-- ---- tests of rows

pub none_dropped : (test : Row → Bool) (rows : List Row) → list_any test rows ≡ false → filter (λ row. not (test row)) rows ≡ rows
none_dropped test [] none = refl
none_dropped test (row ∷ rows) none =
    let n = or_parts (test row) (list_any test rows) none in
    ap (λ b. cond (not b) (row ∷ filter (λ r. not (test r)) rows) (filter (λ r. not (test r)) rows)) n.0 ∙ ap (λ l. row ∷ l) (none_dropped test rows n.1)

-- where no row passes one test, none passes one that is harder
none_harder : (p q : Row → Bool) → ((r : Row) → p r ≡ false → q r ≡ false) → (rows : List Row) → list_any p rows ≡ false → list_any q rows ≡ false
none_harder p q h [] none = refl
none_harder p q h (r ∷ rows) none = let n = or_parts (p r) (list_any p rows) none in or_from (q r) _ (h r n.0) (none_harder p q h rows n.1)

-- where a row passes, no later one does
others : (test : Row → Bool) → ((r s : Row) → Precedes r s → test r ≡ true → test s ≡ false) → (row : Row) (rows : List Row) → test row ≡ true → AllByRecursion (Precedes row) rows → list_any test rows ≡ false
others test sole row [] passes after = refl
others test sole row (r ∷ rows) passes after = or_from (test r) _ (sole row r after.0 passes) (others test sole row rows passes after.1)

last : (b l : Bool) → l ≡ false → ((b && true) || l) ≡ b
last true l e = refl
last false l e = e

passed : (b l : Bool) → ((b && false) || l) ≡ l
passed true l = refl
passed false l = refl

kept : {X : Type 0} (b : Bool) (x y : X) → x ≡ cond (not (b && false)) x y
kept true x y = refl
kept false x y = refl

module _ (conn : ℕ) (name : List ℕ) where
  abbrev own : Row → Bool
  own row = is_own conn name row

  named_sole : (row : Row) (rows : List Row) → is_named name row ≡ true → AllByRecursion (Precedes row) rows → list_any own rows ≡ false
  named_sole row rows passes after =
      let sole : (r s : Row) → Precedes r s → is_named name r ≡ true → is_named name s ≡ false = λ r s p e.
      sym (named_is name s.info.name) ∙ ap (λ n. is_eq (compared n s.info.name)) (sym ((bytes_eq-Decides r.info.name name).0 e)) ∙ ap is_eq p.0 in
      none_harder (is_named name) own (λ r e. and_right (is_of conn r) (is_named name r) e) rows (others (is_named name) sole row rows passes after)

  conn_sole : (row : Row) (rows : List Row) → is_of conn row ≡ true → AllByRecursion (Precedes row) rows → list_any (is_of conn) rows ≡ false
  conn_sole row rows passes after = others (is_of conn) (λ r s p e. ne_eqb s.conn conn (λ h. p.1 (eqb-true r.conn conn e ∙ sym h))) row rows passes after

  pub own_is : (rows : List Row) → InOrder rows → list_any own rows ≡ option_map_or (is_of conn) (find (is_named name) rows) false
  own_is [] ordered = refl
  own_is (r ∷ rows) ordered =
      let more = own_is rows ordered.1 in
      elim (is_named name r) as (λ v. is_named name r ≡ v → ((is_of conn r && v) || list_any own rows) ≡ option_map_or (is_of conn) (cond v (Some r) (find (is_named name) rows)) false) [
        | true ↦ λ e. last (is_of conn r) (list_any own rows) (named_sole r rows e ordered.0)
        | false ↦ λ e. passed (is_of conn r) (list_any own rows) ∙ more
      ] refl

  -- ---- the row that is dropped

  module _ {Z : Type 0} where
    abbrev left : List (Vec ℕ Z × Row) → List (Vec ℕ Z × Row)
    left es = remove_entry (λ k. is_eq (compared name k.items)) es

    pub own_dropped : (es : List (Vec ℕ Z × Row)) → StandAtNames es → InOrder (values_of es) → list_any own (values_of es) ≡ true → values_of (left es) ≡ filter (λ row. not (own row)) (values_of es)
    own_dropped [] named ordered there = refl
    own_dropped (e ∷ es) named ordered there =
        let rows = values_of es in
        let rest = filter (λ row. not (own row)) rows in
        let mine = is_of conn e.1 in
        let more = own_dropped es named.1 ordered.1 in
        ap (λ b. values_of (cond b es (e ∷ left es))) (at_name name e named.0)
        ∙ elim (is_named name e.1) as (λ v. is_named name e.1 ≡ v → ((mine && v) || list_any own rows) ≡ true → values_of (cond v es (e ∷ left es)) ≡ cond (not (mine && v)) (e.1 ∷ rest) rest) [
          | true ↦ λ n t.
              let none = named_sole e.1 rows n ordered.0 in
              sym (none_dropped own rows none) ∙ ap (λ b. cond (not (b && true)) (e.1 ∷ rest) rest) (sym t ∙ last mine (list_any own rows) none)
          | false ↦ λ n t. ap (λ l. e.1 ∷ l) (more (sym (passed mine (list_any own rows)) ∙ t)) ∙ kept mine (e.1 ∷ rest) rest
        ] refl there

    pub own_left : (es : List (Vec ℕ Z × Row)) → StandAtNames es → StandAtNames (left es)
    own_left [] named = tt
    own_left (e ∷ es) named = let more = own_left es named.1 in cond_both (is_eq (compared name e.0.items)) es (e ∷ left es) StandAtNames (λ t. named.1) (λ t. (named.0, more))

  -- ---- where a connection is registered under this name

  same_rows : (rows : List Row) → InOrder rows → list_any own rows ≡ true → filter (λ row. not (own row)) rows ≡ filter (λ row. not (is_of conn row)) rows
  same_rows [] ordered there = refl
  same_rows (r ∷ rows) ordered there =
      let kept_own = filter (λ row. not (own row)) rows in
      let kept_conn = filter (λ row. not (is_of conn row)) rows in
      let more = same_rows rows ordered.1 in
      elim (is_of conn r) as (λ b. is_of conn r ≡ b → ((b && is_named name r) || list_any own rows) ≡ true → cond (not (b && is_named name r)) (r ∷ kept_own) kept_own ≡ cond (not b) (r ∷ kept_conn) kept_conn) [
        | true ↦ λ e t.
            let none = conn_sole r rows e ordered.0 in
            let none_own = none_harder (is_of conn) own (λ x h. and_left (is_of conn x) (is_named name x) h) rows none in
            let named : is_named name r ≡ true = ⊎_elim (λ h. h) (λ h. absurd (both_ways _ none_own h)) (or_cases (is_named name r) (list_any own rows) t) in
            ap (λ b. cond (not b) (r ∷ kept_own) kept_own) named ∙ none_dropped own rows none_own ∙ sym (none_dropped (is_of conn) rows none)
        | false ↦ λ e t. ap (λ l. r ∷ l) (more t)
      ] refl there

  there_own : (rows : List Row) → option_map (λ row. row.info.name) (find (is_of conn) rows) ≡ Some name → list_any own rows ≡ true
  there_own [] found = absurd cc
  there_own (r ∷ rows) found =
      let more = there_own rows in
      elim (is_of conn r) as (λ b. option_map (λ row. row.info.name) (cond b (Some r) (find (is_of conn) rows)) ≡ Some name → ((b && is_named name r) || list_any own rows) ≡ true) [
        | true ↦ λ f. let same : r.info.name ≡ name = cc in or_left (is_named name r) (list_any own rows) ((bytes_eq-Decides r.info.name name).1 same)
        | false ↦ λ f. more f
      ] found

  -- what is dropped is the connection's only row, or nothing
  module _ (registrations : Registrations) (ordered : InOrder registrations.rows) where
    pub same_closed : list_any own registrations.rows ≡ true → after_closed_as conn name registrations ≡ after_closed conn registrations
    same_closed there = ap (λ l. record registrations { rows = l }) (same_rows registrations.rows ordered there)

    pub registered_closed : registered_name conn registrations ≡ Some name → after_closed_as conn name registrations ≡ after_closed conn registrations
    registered_closed found = same_closed (there_own registrations.rows found)

    pub all_or_none : (after_closed_as conn name registrations ≡ registrations) ⊎ (after_closed_as conn name registrations ≡ after_closed conn registrations)
    all_or_none = ⊎_elim (λ e. inr (same_closed e)) (λ e. inl (ap (λ l. record registrations { rows = l }) (none_dropped own registrations.rows e))) (cases_Bool (list_any own registrations.rows))
