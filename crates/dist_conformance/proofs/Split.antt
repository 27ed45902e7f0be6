-- A text is its first part and the parts behind it.
use Rattle.std.proofs.Common.{◌≡◌, ◌∙◌, ℕ, zero, suc, ◌+◌, ◌-◌, ◌<◌, true, List, [], ◌∷◌, length, take, drop, refl, sym, ap, arith}
use Rattle.std.proofs.lemmas.{List.take_rest, Bool.cond-true, Bool.cond-false, Bool.false_from_ne_true}
use Rattle.std.specs.Prelude.{◌==◌}
use Rattle.memchr.specs.Find.{Nowhere, NoneBefore, Passes, is_byte}
use Rattle.dist_conformance.specs.Texts.{parts_of, before_first}

module _ (byte : ℕ) where
  -- another byte is put before the first part
  another : (c : ℕ) (cs : List ℕ) → ((c == byte) ≡ true → ⊥) → parts_of byte (c ∷ cs) ≡ before_first c (parts_of byte cs)
  another c cs not_here = cond-false (c == byte) _ _ (false_from_ne_true (c == byte) not_here)

  found : (text : List ℕ) (k : ℕ) → k < length text → ((i : ℕ) → i < k → Passes (is_byte byte) text i → ⊥) → Passes (is_byte byte) text k → parts_of byte text ≡ take k text ∷ parts_of byte (drop (suc k) text)
  found [] k lt none is = absurd (omega arith)
  found (c ∷ cs) zero lt none is = cond-true (c == byte) _ _ is
  found (c ∷ cs) (suc k) lt none is = another c cs (none 0 (omega arith)) ∙ ap (before_first c) (found cs k (omega arith) (λ i l. none (suc i) (omega arith)) is)

  -- a text in which the byte is first found here is its first part and the parts behind it, as slices are taken
  pub at_first : (text : List ℕ) (k : ℕ) → NoneBefore (Passes (is_byte byte) text) 0 (length text) k → Passes (is_byte byte) text k → parts_of byte text ≡ take k text ∷ parts_of byte (take (length text - (k + 1)) (drop (k + 1) text))
  at_first text k none is =
      let next : suc k ≡ k + 1 = omega arith in
      found text k none.high (λ i l. none.before i (omega arith) l) is ∙ ap (λ rest. take k text ∷ parts_of byte rest) (ap (λ i. drop i text) next ∙ sym (take_rest text (k + 1)))

  -- one in which it is not found is one part
  pub at_none : (text : List ℕ) → Nowhere (Passes (is_byte byte) text) 0 (length text) → parts_of byte text ≡ text ∷ []
  at_none [] none = refl
  at_none (c ∷ cs) none = another c cs (none 0 (omega arith) (omega arith)) ∙ ap (before_first c) (at_none cs (λ i l m. none (suc i) (omega arith) (omega arith)))
