-- What alternatives come to, one after the other.
use Rattle.std.proofs.Common.{◌≡◌, ◌∙◌, Bool, true, false, List, [], ◌∷◌, Option, Some, None, refl, sym, ap}
use Rattle.std.specs.Prelude.{◌||◌, unwrap_or}
use Rattle.std.specs.List.{list_any}
use Rattle.dist_conformance.specs.Judging.{first_passage, is_open, first_failure}
use Rattle.dist_conformance.specs.Alternatives.{or_next, with_one}
use Rattle.dist_conformance.specs.declared.{outcomes.PatternOutcome.PatternOutcome, outcomes.Deviation.Deviation, judging.Alternatives.Alternatives}
use Rattle.dist_conformance.specs.declared.outcomes.Deviation.TheVariants as deviation
use Rattle.dist_conformance.specs.declared.outcomes.PatternOutcome.TheVariants as outcome

-- why the first fails that does
abbrev pub first_why : List PatternOutcome → Option Deviation
first_why [] = None
first_why (outcome.Fails why ∷ others) = Some why
first_why (other ∷ others) = first_why others

pub failure_of : (outcomes : List PatternOutcome) → unwrap_or (first_why outcomes) deviation.Silent ≡ first_failure outcomes
failure_of [] = refl
failure_of (outcome.Fails why ∷ others) = refl
failure_of (outcome.Matches p ∷ others) = failure_of others
failure_of (outcome.Open ∷ others) = failure_of others

next_twice : {A : Type 0} (o : Option A) (x : A) (rest : Option A) → or_next o (Some x) ≡ or_next (or_next o (Some x)) rest
next_twice (Some y) x rest = refl
next_twice None x rest = refl

pub passage_next : (a : Alternatives) (x : PatternOutcome) (rest : List PatternOutcome) → or_next a.passage (first_passage (x ∷ rest)) ≡ or_next (with_one a x).passage (first_passage rest)
passage_next a (outcome.Matches p) rest = next_twice a.passage p (first_passage rest)
passage_next a (outcome.Fails why) rest = refl
passage_next a outcome.Open rest = refl

pub failure_next : (a : Alternatives) (x : PatternOutcome) (rest : List PatternOutcome) → or_next a.failure (first_why (x ∷ rest)) ≡ or_next (with_one a x).failure (first_why rest)
failure_next a (outcome.Matches p) rest = refl
failure_next a (outcome.Fails why) rest = next_twice a.failure why (first_why rest)
failure_next a outcome.Open rest = refl

or_true : (b c : Bool) → (b || true) ≡ (true || c)
or_true true c = refl
or_true false c = refl

pub undecided_next : (a : Alternatives) (x : PatternOutcome) (rest : List PatternOutcome) → (a.is_undecided || list_any is_open (x ∷ rest)) ≡ ((with_one a x).is_undecided || list_any is_open rest)
undecided_next a (outcome.Matches p) rest = refl
undecided_next a (outcome.Fails why) rest = refl
undecided_next a outcome.Open rest = or_true a.is_undecided (list_any is_open rest)

or_none : {A : Type 0} (o : Option A) → or_next o None ≡ o
or_none (Some x) = refl
or_none None = refl

-- where no alternative is left, what came decides
pub at_end : (f : Option Deviation) (all rest : List PatternOutcome) → rest ≡ [] → first_why all ≡ or_next f (first_why rest) → unwrap_or f deviation.Silent ≡ first_failure all
at_end f all rest none e =
    ap (λ x. unwrap_or x deviation.Silent) (sym (e ∙ ap (λ r. or_next f (first_why r)) none ∙ or_none f)) ∙ failure_of all
