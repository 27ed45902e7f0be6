-- What the targets showed last is what was observed last.
use Rattle.std.proofs.Common.{◌≡◌, ◌≢◌, ℕ, ◌<◌, Bool, true, false, not, eqb, List, [], ◌∷◌, ◌++◌, Option, Some, None, length, get_or, set, replicate, refl}
use Rattle.std.proofs.Common.{sym, ap, ◌∙◌, inl, inr, arith}
use Rattle.std.proofs.lemmas.List.{get_or-set_other, get_or-replicate, get_or_past, length-replicate, set-get_or}
use Rattle.std.proofs.lemmas.{Bool.false≢true, Bool.cases_lt, Bool.eqb-true, Bool.eqb-false, Grind.get_or-set_at}
use Rattle.std.specs.Cmp.Lexicographic.{pointwise, same_text, other_text}
use Rattle.dist_cluster.specs.Watching.{Verdicts, watching, verdict_of, after_one, is_other}
use Rattle.dist_cluster.specs.{declared.change.Observation.Observation, History.last_observed}
use Rattle.dist_cluster.proofs.Lasts.{last_by-same, last_by-other}

-- ---- verdicts

not-false : (b : Bool) → not b ≡ false → true ≡ b
not-false true h = refl
not-false false h = absurd (false≢true (sym h))

not-true : (b : Bool) → not b ≡ true → false ≡ b
not-true true h = absurd (false≢true h)
not-true false h = refl

-- a verdict that does not differ is the one before
pub known : (before : Option (List ℕ)) (verdict : List ℕ) → is_other before verdict ≡ false → before ≡ Some verdict
known None verdict h = absurd (false≢true (sym h))
known (Some before) verdict h = ap Some (same_text before verdict (not-false (pointwise eqb before verdict) h))

some-same : (a b : List ℕ) → ◌≡◌ {A = Option (List ℕ)} (Some a) (Some b) → a ≡ b
some-same a b e = cc

none-some : (b : List ℕ) → ◌≡◌ {A = Option (List ℕ)} None (Some b) → ⊥
none-some b e = cc

-- a verdict that differs is not the one before
pub differs : (before : Option (List ℕ)) (verdict : List ℕ) → is_other before verdict ≡ true → before ≢ Some verdict
differs None verdict h e = none-some verdict e
differs (Some before) verdict h e = other_text before verdict (not-true (pointwise eqb before verdict) h) (some-same before verdict e)

-- ---- what is shown after one more observation

pub stays : (shown : Verdicts) (seen : Observation) → is_other (verdict_of shown seen.target) seen.verdict ≡ false → after_one shown seen ≡ shown
stays shown seen h =
    let e : get_or shown seen.target None ≡ Some seen.verdict = known (get_or shown seen.target None) seen.verdict h in
    ap (λ (v : Option (List ℕ)). set shown seen.target v) (sym e) ∙ set-get_or shown seen.target None

-- where the verdict is the one that was shown, nothing changes
pub stays-known : (shown : Verdicts) (seen : Observation) (same : Bool) → same ≡ not (is_other (verdict_of shown seen.target) seen.verdict) → same ≡ true
    → shown ≡ after_one shown seen
stays-known shown seen same is holds =
    sym (stays shown seen (sym (not-true (is_other (verdict_of shown seen.target) seen.verdict) (sym is ∙ holds))))

pub shown-same : (shown : Verdicts) (seen : Observation) (t : ℕ) → seen.target < length shown → eqb seen.target t ≡ true
    → verdict_of (after_one shown seen) t ≡ Some seen.verdict
shown-same shown seen t fits is =
    get_or-set_at shown seen.target t (Some seen.verdict) None (sym (eqb-true seen.target t is)) fits

pub shown-other : (shown : Verdicts) (seen : Observation) (t : ℕ) → eqb seen.target t ≡ false
    → verdict_of (after_one shown seen) t ≡ verdict_of shown t
shown-other shown seen t is =
    get_or-set_other shown seen.target t (Some seen.verdict) None (λ e. eqb-false seen.target t is (sym e))

-- nothing is shown at first
pub none-shown : (targets t : ℕ) → verdict_of (watching targets) t ≡ None
none-shown targets t =
    let none : Option (List ℕ) = None in
    elim (cases_lt t targets) [
      | inl h ↦ get_or-replicate targets t none none h
      | inr h ↦ get_or_past (replicate targets none) t none (omega (arith, h, length-replicate targets none))
    ]

-- ---- what is shown is what was observed last

-- each target shows the verdict that was observed of it last
abbrev pub Agrees : Verdicts → List Observation → Type 0
Agrees shown past = (t : ℕ) → verdict_of shown t ≡ last_observed t past

pub agree-more : (shown : Verdicts) (past : List Observation) (o : Observation) → o.target < length shown → Agrees shown past
    → Agrees (after_one shown o) (past ++ o ∷ [])
agree-more shown past o fits agree t =
    elim (eqb o.target t) as (λ b. eqb o.target t ≡ b → verdict_of (after_one shown o) t ≡ last_observed t (past ++ o ∷ [])) [
      | true ↦ λ is. shown-same shown o t fits is ∙ sym (last_by-same (λ x. x.target) (λ x. x.verdict) t past o is)
      | false ↦ λ is. shown-other shown o t is ∙ agree t ∙ sym (last_by-other (λ x. x.target) (λ x. x.verdict) t past o is)
    ] refl
