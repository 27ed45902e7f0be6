-- What follows from AreApart alone, at any moment: who holds a peer as dialled is alone, and so on.
use Rattle.dist_world_model.proofs.Words.{◌≡◌, ℕ, true, false, ◌≢◌, List, slice_get, Some, sym, ap, ◌∙◌, false≢true, true_from_ne_false, Name, Acceptor}
use Rattle.dist_world_model.proofs.Words.{Dialler, is_claim, Kind, Out, AreApart, claim_in, get_along, NodeLaws, EndRow, claim_before, claim_when, kind_by}
use Rattle.dist_world_model.proofs.Words.{past, entered_before, left_before}

module _ (laws : NodeLaws) (rows : List EndRow) (apart : AreApart rows) (t : ℕ) (p : Name) (i j : ℕ) (differ : i ≢ j) (x y : EndRow)
    (at-x : slice_get rows i ≡ Some x) (at-y : slice_get rows j ≡ Some y) (peer-x : x.peer ≡ Some p) (peer-y : y.peer ≡ Some p) where
  self : (k : Kind) → is_claim p k (Some (record { peer = p; kind = k })) ≡ true
  self Out = laws.names.itself p
  self k = laws.names.itself p

  -- an end that had entered and not left held p, by whether it had come up
  held : (row : EndRow) → row.peer ≡ Some p → entered_before t row ≡ true → left_before t row ≡ false → claim_before t row ≡ Some (record { peer = p; kind = kind_by row.side (past t row.rose) })
  held row pr e l = λ n. claim_when row.side (pr n) (e n) (l n) (past t row.rose)

  -- two that both hold p get along
  pub two-held : entered_before t x ≡ true → left_before t x ≡ false → entered_before t y ≡ true → left_before t y ≡ false → get_along (kind_by x.side (past t x.rose)) (kind_by y.side (past t y.rose)) ≡ true
  two-held ex lx ey ly =
      let k = kind_by x.side (past t x.rose) in
      let l = kind_by y.side (past t y.rose) in
      apart t p k l i j
      (ap (λ o. is_claim p k (claim_in t o)) at-x ∙ ap (is_claim p k) (held x peer-x ex lx) ∙ self k)
      (ap (λ o. is_claim p l (claim_in t o)) at-y ∙ ap (is_claim p l) (held y peer-y ey ly) ∙ self l) differ

  out-none : (k : Kind) → get_along Out k ≡ true → ⊥
  out-none Out e = false≢true e
  out-none k e = false≢true e

  -- WHO HOLDS p AS DIALLED IS ALONE: every other end of p that had entered has left
  pub out-alone : x.side ≡ Dialler → entered_before t x ≡ true → left_before t x ≡ false → past t x.rose ≡ false → entered_before t y ≡ true → left_before t y ≡ true
  out-alone s ex lx rx ey = true_from_ne_false (left_before t y) (λ ly. out-none (kind_by y.side (past t y.rose)) (sym (λ n. get_along (kind_by (s n) (rx n)) (kind_by y.side (past t y.rose))) ∙ two-held ex lx ey ly))

  -- of two accepted ends that are not up one has left
  pub in-alone : x.side ≡ Acceptor → y.side ≡ Acceptor → entered_before t x ≡ true → left_before t x ≡ false → past t x.rose ≡ false → entered_before t y ≡ true → past t y.rose ≡ false → left_before t y ≡ true
  in-alone sx sy ex lx rx ey ry = true_from_ne_false (left_before t y) (λ ly. false≢true (sym (λ n. get_along (kind_by (sx n) (rx n)) (kind_by (sy n) (ry n))) ∙ two-held ex lx ey ly))

  -- of two ends that came up one has left
  pub up-alone : entered_before t x ≡ true → left_before t x ≡ false → past t x.rose ≡ true → entered_before t y ≡ true → past t y.rose ≡ true → left_before t y ≡ true
  up-alone ex lx rx ey ry = true_from_ne_false (left_before t y) (λ ly. false≢true (sym (λ n. get_along (kind_by x.side (rx n)) (kind_by y.side (ry n))) ∙ two-held ex lx ey ly))
