-- What single functions of the judgement return.
use Rattle.std.specs.Prelude.{ℕ, ◌≤◌}
use Rattle.dist_conformance.specs.declared.outcomes.PatternOutcome.{PatternOutcome}
use Rattle.dist_conformance.specs.declared.outcomes.PatternOutcome.TheVariants as outcome

-- no more bytes match than came
abbrev pub IsWithin : ℕ → PatternOutcome → Type 0
IsWithin n (outcome.Matches p) = p.count ≤ n
IsWithin n other = Unit {0}
