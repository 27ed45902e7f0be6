-- A text is its first part and the parts behind it, and so is a line its first word and the words behind it.
use Rattle.std.proofs.Common.{◌≡◌, ◌∙◌, ℕ, zero, suc, ◌+◌, ◌-◌, ◌<◌, ◌≤◌, true, false, cond, List, [], ◌∷◌, ◌++◌, length, take, drop}
use Rattle.std.proofs.Common.{Some, None, refl, sym, ap, arith, ◌==◌, eqb, position}
use Rattle.std.proofs.lemmas.Bool.{cond-true, cond-false, false_from_ne_true, true≢false, Decides.Decides-eqb}
use Rattle.std.proofs.lemmas.{Grind.common_steps, List.take_rest, List.Quantifiers.position-Some, List.Sums.fails_before_first, Slice.Eq.starts_is}
use Rattle.std.specs.List.{position_or_len, starts_with}
use Rattle.memchr.specs.Find.{Nowhere, NoneBefore, Passes, is_byte}
use Rattle.dist_script.specs.Words.{words_of, parts_of, before_first}

-- the first of these parts
abbrev first_of : List (List ℕ) → List ℕ
first_of [] = []
first_of (p ∷ ps) = p

module _ (byte : ℕ) where
  -- another byte is put before the first part
  another : (c : ℕ) (cs : List ℕ) → ((c == byte) ≡ true → ⊥) → parts_of byte (c ∷ cs) ≡ before_first c (parts_of byte cs)
  another c cs not_here = cond-false (c == byte) _ _ (false_from_ne_true (c == byte) not_here)

  found : (text : List ℕ) (k : ℕ) → k < length text → ((i : ℕ) → i < k → Passes (is_byte byte) text i → ⊥) → Passes (is_byte byte) text k → parts_of byte text ≡ take k text ∷ parts_of byte (drop (suc k) text)
  found [] k lt none is = absurd (omega arith)
  found (c ∷ cs) zero lt none is = cond-true (c == byte) _ _ is
  found (c ∷ cs) (suc k) lt none is = another c cs (none 0 (omega arith)) ∙ ap (before_first c) (found cs k (omega arith) (λ i l. none (suc i) (omega arith)) is)

  -- a text in which the byte is first found here is its first part and the parts behind it, as slices are taken
  pub at_first : (text : List ℕ) (k : ℕ) → NoneBefore (Passes (is_byte byte) text) 0 (length text) k → Passes (is_byte byte) text k → parts_of byte text ≡ take k text ∷ parts_of byte (take (length text - (k + 1)) (drop (k + 1) text))
  at_first text k none is =
      let next : suc k ≡ k + 1 = omega arith in
      found text k none.high (λ i l. none.before i (omega arith) l) is ∙ ap (λ rest. take k text ∷ parts_of byte rest) (ap (λ i. drop i text) next ∙ sym (take_rest text (k + 1)))

  -- one in which it is not found is one part
  pub at_none : (text : List ℕ) → Nowhere (Passes (is_byte byte) text) 0 (length text) → parts_of byte text ≡ text ∷ []
  at_none [] none = refl
  at_none (c ∷ cs) none = another c cs (none 0 (omega arith) (omega arith)) ∙ ap (before_first c) (at_none cs (λ i l m. none (suc i) (omega arith) (omega arith)))

  -- the same where the places are looked at one by one
  pub at_space : (text : List ℕ) (k : ℕ) → position (is_byte byte) text ≡ Some k → parts_of byte text ≡ take k text ∷ parts_of byte (take (length text - (k + 1)) (drop (k + 1) text))
  at_space text k e =
      let here = position-Some (is_byte byte) text k 0 e in
      at_first text k (record { low = omega arith; high = here.0; before = λ i l lt is. true≢false (sym is ∙ here.2 i lt) }) here.1

  pub no_space : (text : List ℕ) → position (is_byte byte) text ≡ None → parts_of byte text ≡ text ∷ []
  no_space text e =
      let all : length text ≤ position_or_len (is_byte byte) text = grind (arith, common_steps) in
      at_none text (λ i l lt is. true≢false (sym is ∙ fails_before_first (is_byte byte) text i 0 (omega arith)))

  -- a text begins with its first part
  first_put : (c : ℕ) (ps : List (List ℕ)) (rest : List ℕ) → c ∷ (first_of ps ++ rest) ≡ first_of (before_first c ps) ++ rest
  first_put c [] rest = refl
  first_put c (p ∷ ps) rest = refl

  begins : (text : List ℕ) → (rest : List ℕ) × (text ≡ first_of (parts_of byte text) ++ rest)
  begins [] = ([], refl)
  begins (c ∷ cs) =
      let behind = begins cs in
      elim (c == byte) as (λ v. (rest : List ℕ) × (c ∷ cs ≡ first_of (cond v ([] ∷ parts_of byte cs) (before_first c (parts_of byte cs))) ++ rest)) [
        | true ↦ (c ∷ cs, refl)
        | false ↦ (behind.0, ap (λ l. c ∷ l) behind.1 ∙ first_put c (parts_of byte cs) behind.0)
      ]

-- a line that does not begin with these bytes has another first word
pub other_start : (line wanted : List ℕ) (words : List (List ℕ)) → starts_with eqb line wanted ≡ false → words_of line ≡ wanted ∷ words → ⊥
other_start line wanted words off e =
    let front = begins 32 line in
    let whole : line ≡ wanted ++ front.0 = front.1 ∙ ap (λ ws. first_of ws ++ front.0) e in
    true≢false (sym ((starts_is Decides-eqb line wanted (starts_with eqb line wanted) refl).1 front.0 whole) ∙ off)

-- a line has a word
pub some_word : (line : List ℕ) → words_of line ≡ [] → ⊥
some_word [] = λ e. absurd cc
some_word (c ∷ cs) =
    elim (is_byte 32 c) as (λ v. cond v ([] ∷ words_of cs) (before_first c (words_of cs)) ≡ [] → ⊥) [
      | true ↦ λ e. absurd cc
      | false ↦ elim (words_of cs) as (λ ws. before_first c ws ≡ [] → ⊥) [ [] ↦ λ e. absurd cc | w ∷ ws ↦ λ e. absurd cc ]
    ]
