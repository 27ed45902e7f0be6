-- An incarnation that gets no event: it stays, begins, ends, changes its setup, or one of its ends reaches another.
use Rattle.dist_world_model.proofs.Words.{◌≡◌, ℕ, zero, suc, ◌+◌, ◌<◌, Bool, true, false, cond, not, eqb, ◌⊎◌, List, [], ◌∷◌, is_some, slice_get, Some, None}
use Rattle.dist_world_model.proofs.Words.{Option, option_map, sym, refl, ap, ◌∙◌, subst, inl, inr, arith, false≢true, or_right, same_Some, Name, AreLegal}
use Rattle.dist_world_model.proofs.Words.{is_claim, End, Kind, Setup, setup_after, Change, life_after_end, reached_life, reached_row, shut_all, shut_row}
use Rattle.dist_world_model.proofs.Words.{AreApart, claim_in, held_before, at_place, EndRow, claim_before, claim_when, past, entered_before, left_before, Life}
use Rattle.dist_world_model.proofs.Words.{runs}
use Rattle.dist_world_model.proofs.{EndStates.AreBeside, EndStates.Below, EndStates.Beside, EndStates.Fits, Places.before-map, Places.get-place}
use Rattle.dist_world_model.proofs.IncarnationFacts.{AllRows, Grown, Grows, IsLife, NamedNow, Was, apart-step, grows-below, life-by}
use Rattle.dist_world_model.proofs.RowChanges.{Writes, quiet-writes, same-writes, writes-below}
use Rattle.dist_world_model.proofs.RowMarks.{later-below, once-false, once-some}
use Rattle.dist_core.specs.declared.changing.Change.TheVariants as change

-- ---- rows that change each in its place, and take no name

pub mapped-grows : (t : ℕ) (rows new : List EndRow) (g : ℕ → EndRow → EndRow) → ((i : ℕ) → slice_get new i ≡ option_map (g i) (slice_get rows i)) → ((i : ℕ) (x : EndRow) → slice_get rows i ≡ Some x → Writes t x (g i x)) → Grows t rows new
mapped-grows t rows new g at w = record {
  from = λ i y ay. (let o = before-map (g i) (slice_get rows i) y (sym (at i) ∙ ay) in Was o.0 o.1 (subst (Writes t o.0) (sym o.2) (w i o.0 o.1)));
  kept = λ i x ax. (g i x, at i ∙ ap (option_map (g i)) ax);
}

quiet-grown : (t : ℕ) (l m : Life) (g : ℕ → EndRow → EndRow) → ((i : ℕ) → slice_get m.rows i ≡ option_map (g i) (slice_get l.rows i)) → ((i : ℕ) (x : EndRow) → Writes t x (g i x)) → ((i : ℕ) (x : EndRow) → (g i x).named ≡ x.named)
    → m.begun ≡ l.begun → m.node.setup.name ≡ l.node.setup.name → ((n : ℕ) → m.over ≡ Some n → (n ≡ t) ⊎ ((l.over ≡ Some n) × (m.rows ≡ l.rows))) → Grown t l m
quiet-grown t l m g at w nm begun name over = record {
  begun = begun;
  name = name;
  rows = mapped-grows t l.rows m.rows g at (λ i x ax. w i x);
  over = over;
  ousts = λ i p k j u z n. absurd (unnamed i p k);
  decides = λ i p k x own new. absurd (unnamed i p k);
}
  where
    unnamed : (i : ℕ) (p : Name) → NamedNow t l.rows m.rows i p → ⊥
    unnamed i p k =
        let z : Some (g i k.before) ≡ Some k.after = sym (at i ∙ ap (option_map (g i)) k.was) ∙ k.is in
        let n : None ≡ Some t = sym (nm i k.before ∙ k.free) ∙ ap (λ (r : EndRow). r.named) (same_Some _ _ z) ∙ k.named in
        cc

same-map : (o : Option EndRow) → o ≡ option_map (λ x. x) o
same-map None = refl
same-map (Some x) = refl

-- the rows and the beginning stay
module _ (t : ℕ) (l m : Life) (rows : m.rows ≡ l.rows) where
  pub kept-grown : m.begun ≡ l.begun → m.node.setup.name ≡ l.node.setup.name → m.over ≡ l.over → Grown t l m
  kept-grown begun name over = quiet-grown t l m (λ i x. x) (λ i. ap (λ xs. slice_get xs i) rows ∙ same-map (slice_get l.rows i)) (λ i. same-writes t) (λ i x. refl) begun name (λ n e. inr (sym over ∙ e, rows))

  pub kept-life : IsLife t l → m.node.ends ≡ l.node.ends → runs m ≡ runs l → IsLife (t + 1) m
  kept-life h ends live = record {
    legal = subst AreLegal (sym ends) h.legal;
    beside = λ e. (let P : List End → List EndRow → Type 0 = λ es rs. AreBeside es rs in subst (λ es. P es m.rows) (sym ends) (subst (P l.node.ends) (sym rows) (h.beside (sym live ∙ e))));
    below = λ i row is. later-below t (t + 1) row (omega arith) (h.below i row (ap (λ xs. slice_get xs i) (sym rows) ∙ is));
    apart = subst AreApart (sym rows) h.apart;
  }

-- ---- an incarnation that ends

pub get-shut : (t : ℕ) (rows : List EndRow) (i : ℕ) → slice_get (shut_all t rows) i ≡ option_map (shut_row t) (slice_get rows i)
get-shut t [] i = refl
get-shut t (row ∷ rows) zero = refl
get-shut t (row ∷ rows) (suc i) = get-shut t rows i

shut-writes : (t : ℕ) (x : EndRow) → Writes t x (shut_row t x)
shut-writes t x = quiet-writes t true x (shut_row t x) refl refl refl refl refl refl refl refl

pub ends-grown : (t : ℕ) (l : Life) → Grown t l (life_after_end t l)
ends-grown t l = quiet-grown t l (life_after_end t l) (λ i. shut_row t) (get-shut t l.rows) (λ i. shut-writes t) (λ i x. refl) refl refl (λ n e. inl (same_Some n t (sym e)))

-- one that was closed holds nothing
closed-none : (s : ℕ) (row : EndRow) → past s row.closed ≡ true → claim_before s row ≡ None
closed-none s row h = by (entered_before s row) (left_before s row) (or_right (past s row.doomed) (past s row.closed) h)
  where
    by : (b c : Bool) → c ≡ true → claim_when row.side row.peer b c (past s row.rose) ≡ None
    by true c e = ap (λ c. claim_when row.side row.peer true c (past s row.rose)) e
    by false c e = refl

ended-now : (t : ℕ) (rows : List EndRow) → AllRows (Below t) rows → (s : ℕ) → t < s → (p : Name) (k : Kind) (i : ℕ) → held_before (shut_all t rows) s p k i ≡ false
ended-now t rows below s later p k i = ap (λ o. is_claim p k (claim_in s o)) (get-shut t rows i) ∙ by (slice_get rows i) (below i)
  where
    by : (o : Option EndRow) → ((row : EndRow) → o ≡ Some row → Below t row) → is_claim p k (claim_in s (option_map (shut_row t) o)) ≡ false
    by None g = refl
    by (Some row) g =
        let b = later-below (t + 1) s (shut_row t row) (omega (arith, later)) (writes-below t row (shut_row t row) (shut-writes t row) (g row refl)) in
        ap (is_claim p k) (closed-none s (shut_row t row) (b.closed ∙ once-some t row.closed))

pub ends-life : (t : ℕ) (l : Life) → IsLife t l → IsLife (t + 1) (life_after_end t l)
ends-life t l h =
    let grown = ends-grown t l in
    record {
      legal = h.legal;
      beside = λ e. absurd (false≢true e);
      below = grows-below t l.rows (shut_all t l.rows) grown.rows h.below;
      apart = apart-step t l.rows (shut_all t l.rows) h.apart grown.rows (λ s later p k m i j a b d. absurd (false≢true (sym (ended-now t l.rows h.below s later p k i) ∙ a)));
    }

-- ---- an incarnation whose end reached another

abbrev pub reach : ℕ → ℕ → ℕ → EndRow → EndRow
reach id c i row = cond (eqb id i) (reached_row c row) row

pub get-reached : (id c : ℕ) (rows : List EndRow) (i : ℕ) → slice_get (at_place id (reached_row c) rows) i ≡ option_map (reach id c i) (slice_get rows i)
get-reached id c rows i = get-place id (reached_row c) rows i ∙ by (eqb id i) (slice_get rows i)
  where
    by : (b : Bool) (o : Option EndRow) → cond b (option_map (reached_row c) o) o ≡ option_map (λ row. cond b (reached_row c row) row) o
    by true o = refl
    by false None = refl
    by false (Some row) = refl

-- what a connection does not change
pub reach-any : (P : EndRow → Type 0) (row : EndRow) → P row → ((c : ℕ) → P (reached_row c row)) → (id c i : ℕ) → P (reach id c i row)
reach-any P row h g id c i = elim (eqb id i) as (λ b. P (cond b (reached_row c row) row)) [ true ↦ g c | false ↦ h ]

pub not-over : (l : Life) (n : ℕ) → runs l ≡ true → l.over ≡ Some n → ⊥
not-over l n live e = false≢true (ap (λ o. not (is_some o)) (sym e) ∙ live)

pub reaches-grown : (t : ℕ) (l : Life) (id c : ℕ) → runs l ≡ true → Grown t l (reached_life id c l)
reaches-grown t l id c live = quiet-grown t l (reached_life id c l) (reach id c) (get-reached id c l.rows)
    (λ i x. reach-any (Writes t x) x (same-writes t x) (λ c. quiet-writes t false x (reached_row c x) refl refl refl refl refl refl refl (sym (once-false t x.closed))) id c i)
    (λ i x. reach-any (λ y. y.named ≡ x.named) x refl (λ c. refl) id c i) refl refl (λ n e. absurd (not-over l n live e))

pub reaches-life : (t : ℕ) (l : Life) (id c : ℕ) → runs l ≡ true → IsLife t l → IsLife (t + 1) (reached_life id c l)
reaches-life t l id c live h =
    let grown = reaches-grown t l id c live in
    life-by t l (reached_life id c l) h grown.rows h.legal (λ i. subst (Beside (slice_get l.node.ends i)) (sym (get-reached id c l.rows i)) (by (slice_get l.node.ends i) (slice_get l.rows i) i (h.beside live i)))
  where
    by : (o : Option End) (q : Option EndRow) (i : ℕ) → Beside o q → Beside o (option_map (reach id c i) q)
    by (Some e) (Some row) i b = reach-any (Fits e) row b (λ c. b) id c i
    by None None i b = b
    by None (Some row) i b = b
    by (Some e) None i b = b

-- ---- an incarnation whose setup changes

pub setup-name : (s : Setup) (v : Change) → (setup_after s v).name ≡ s.name
setup-name s (change.Cookie p c) = refl
setup-name s (change.UsualCookie c) = refl
setup-name s (change.Allow ps) = refl
