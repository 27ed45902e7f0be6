-- The first end of a kind, and the numbers below which no end is of that kind.
use Rattle.dist_core_ends.proofs.Words.{◌≡◌, ℕ, zero, suc, ◌≤◌, true, cond, List, [], ◌∷◌, length, slice_get, Some, None, Option, option_map, refl, ap, ◌∙◌}
use Rattle.dist_core_ends.proofs.Words.{arith, false≢true, EndId, end_id, first_of, AreSettled, finds_sought, is_sought, End, Sought}

module _ (k : Sought) where
  found-first : (es : List End) (n : ℕ) → AreSettled k es n → finds_sought k (slice_get es n) ≡ true → first_of (is_sought k) es ≡ Some n
  found-first [] n before here = absurd (false≢true here)
  found-first (e ∷ es) zero before here = ap (λ b. cond b (Some 0) (option_map suc (first_of (is_sought k) es))) here
  found-first (e ∷ es) (suc n) before here =
      ap (λ b. cond b (Some 0) (option_map suc (first_of (is_sought k) es))) (before zero (omega arith))
      ∙ ap (option_map suc) (found-first es n (λ i h. before (suc i) (omega (arith, h))) here)

  found-none : (es : List End) → AreSettled k es (length es) → first_of (is_sought k) es ≡ None
  found-none [] before = refl
  found-none (e ∷ es) before =
      ap (λ b. cond b (Some 0) (option_map suc (first_of (is_sought k) es))) (before zero (omega arith))
      ∙ ap (option_map suc) (found-none es (λ i h. before (suc i) (omega (arith, h))))

  -- the oldest end of this kind
  abbrev pub oldest : List End → Option EndId
  oldest es = option_map end_id (first_of (is_sought k) es)

  pub oldest-found : (es : List End) (n : ℕ) → AreSettled k es n → finds_sought k (slice_get es n) ≡ true → oldest es ≡ Some (end_id n)
  oldest-found es n before here = ap (option_map end_id) (found-first es n before here)

  pub oldest-none : (es : List End) (n : ℕ) → length es ≤ n → AreSettled k es n → oldest es ≡ None
  oldest-none es n past before = ap (option_map end_id) (found-none es (λ i h. before i (omega (arith, h, past))))
