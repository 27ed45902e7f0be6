-- What alternatives come to, one after the other.
use Rattle.std.specs.Prelude.{Option, Some, None, true}
use Rattle.dist_conformance.specs.declared.{outcomes.PatternOutcome.PatternOutcome, judging.Alternatives.Alternatives}
use Rattle.dist_conformance.specs.declared.outcomes.PatternOutcome.TheVariants as outcome

-- the first of two, if it is there
abbrev pub or_next : {A : Type 0} → Option A → Option A → Option A
or_next (Some x) other = Some x
or_next None other = other

-- one alternative more
abbrev pub with_one : Alternatives → PatternOutcome → Alternatives
with_one a (outcome.Matches p) = record a { passage = or_next a.passage (Some p) }
with_one a (outcome.Fails why) = record a { failure = or_next a.failure (Some why) }
with_one a outcome.Open = record a { is_undecided = true }
