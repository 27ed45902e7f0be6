-- Whether a peer among the entries from a place on has no cookie of its own.
use Rattle.dist_core.proofs.Words.{◌≡◌, ℕ, zero, suc, ◌+◌, true, false, ◌||◌, List, [], ◌∷◌, drop, slice_get, sym, refl, ap, ◌∙◌, arith, list_any, Name, Entry}
use Rattle.dist_core.proofs.Words.{Setup, has_usual, is_usual_row}

abbrev Row : Type 0
Row = Name × Entry

later : (k : ℕ) → suc k + 1 ≡ suc (k + 1)
later k = omega arith

none-left : (n : ℕ) → ◌≡◌ {A = List Row} (drop n []) []
none-left zero = refl
none-left (suc n) = refl

module _ (s : Setup) where
  from-place : (rows : List Row) (i : ℕ) → list_any (has_usual s) (drop i rows) ≡ (is_usual_row s (slice_get rows i) || list_any (has_usual s) (drop (i + 1) rows))
  from-place [] i = ap (list_any (has_usual s)) (none-left i ∙ sym (none-left (i + 1)))
  from-place (x ∷ xs) zero = refl
  from-place (x ∷ xs) (suc k) = from-place xs k ∙ ap (λ j. is_usual_row s (slice_get xs k) || list_any (has_usual s) (drop j (x ∷ xs))) (sym (later k))

  pub found-at : (rows : List Row) (i : ℕ) → is_usual_row s (slice_get rows i) ≡ true → list_any (has_usual s) (drop i rows) ≡ true
  found-at rows i h = from-place rows i ∙ ap (λ b. b || list_any (has_usual s) (drop (i + 1) rows)) h

  pub none-at : (rows : List Row) (i : ℕ) → is_usual_row s (slice_get rows i) ≡ false → list_any (has_usual s) (drop i rows) ≡ list_any (has_usual s) (drop (i + 1) rows)
  none-at rows i h = from-place rows i ∙ ap (λ b. b || list_any (has_usual s) (drop (i + 1) rows)) h
