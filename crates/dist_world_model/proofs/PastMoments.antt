-- What was, and was not yet, when a number was written.
use Rattle.dist_world_model.proofs.Words.{◌≡◌, ℕ, ◌<◌, ◌≤◌, Bool, true, false, ◌||◌, ltb, ◌⊎◌, Some, None, Option, sym, refl, ◌∙◌, inl, inr, arith, cases_lt}
use Rattle.dist_world_model.proofs.Words.{false≢true, or_parts, true_from_ne_false, nat_tests, Side, Acceptor, Dialler, EndRow, holds_peer, past}
use Rattle.dist_world_model.proofs.Words.{entered_before, left_before}

-- ---- numbers

pub not-below : (a b : ℕ) → (a < b → ⊥) → b ≤ a
not-below a b h = by (cases_lt a b)
  where
    by : (a < b) ⊎ (b ≤ a) → b ≤ a
    by (inl lt) = absurd (h lt)
    by (inr le) = le

pub not-above : (a b : ℕ) → (b ≤ a → ⊥) → a < b
not-above a b h = by (cases_lt a b)
  where
    by : (a < b) ⊎ (b ≤ a) → a < b
    by (inl lt) = lt
    by (inr le) = absurd (h le)

pub past-is : (t n : ℕ) → past t (Some n) ≡ true → n < t
past-is t n h = grind (arith, nat_tests)

pub is-past : (t n : ℕ) → n < t → past t (Some n) ≡ true
is-past t n h = grind (arith, nat_tests)

pub past-some : (t : ℕ) (o : Option ℕ) → past t o ≡ true → (n : ℕ) × (o ≡ Some n) × (n < t)
past-some t None h = absurd (false≢true h)
past-some t (Some n) h = (n, refl, past-is t n h)

pub not-past : (t : ℕ) → past t (Some t) ≡ false
not-past t = grind (arith, nat_tests)

pub past-later : (s t : ℕ) (o : Option ℕ) → s ≤ t → past s o ≡ true → past t o ≡ true
past-later s t (Some n) h g = is-past t n (let k = past-is s n g in omega (arith, k, h))
past-later s t None h g = absurd (false≢true g)

pub past-sooner : (s t : ℕ) (o : Option ℕ) → s ≤ t → past t o ≡ false → past s o ≡ false
past-sooner s t o h g = elim (past s o) as (λ b. past s o ≡ b → b ≡ false) [ true ↦ λ b. absurd (false≢true (sym g ∙ past-later s t o h b)) | false ↦ λ b. refl ] refl

pub left-sooner : (s t : ℕ) (row : EndRow) → s ≤ t → left_before t row ≡ false → left_before s row ≡ false
left-sooner s t row h g = let p = or_parts (past t row.doomed) (past t row.closed) g in λ i. past-sooner s t row.doomed h p.0 i || past-sooner s t row.closed h p.1 i

pub left-later : (s t : ℕ) (row : EndRow) → s ≤ t → left_before s row ≡ true → left_before t row ≡ true
left-later s t row h g = true_from_ne_false (left_before t row) (λ e. false≢true (sym (left-sooner s t row h e) ∙ g))

pub dialled-entered : (t : ℕ) (row : EndRow) → row.side ≡ Dialler → row.given < t → entered_before t row ≡ true
dialled-entered t row s h = (λ i. holds_peer (s i) (ltb row.given t) (past t row.named)) ∙ is-past t row.given h

pub entered-dialled : (t : ℕ) (row : EndRow) → row.side ≡ Dialler → entered_before t row ≡ true → row.given < t
entered-dialled t row s h = past-is t row.given (sym (λ i. holds_peer (s i) (ltb row.given t) (past t row.named)) ∙ h)

pub accepted-entered : (t n : ℕ) (row : EndRow) → row.side ≡ Acceptor → row.named ≡ Some n → n < t → entered_before t row ≡ true
accepted-entered t n row s e h = (λ i. holds_peer (s i) (ltb row.given t) (past t (e i))) ∙ is-past t n h

pub entered-later : (s t : ℕ) (row : EndRow) → s ≤ t → entered_before s row ≡ true → entered_before t row ≡ true
entered-later s t row h g = by row.side g
  where
    by : (d : Side) → holds_peer d (ltb row.given s) (past s row.named) ≡ true → holds_peer d (ltb row.given t) (past t row.named) ≡ true
    by Dialler e = past-later s t (Some row.given) h e
    by Acceptor e = past-later s t row.named h e

pub contra : {P : Type 0} (b : Bool) → b ≡ false → b ≡ true → P
contra b h g = absurd (false≢true (sym h ∙ g))
