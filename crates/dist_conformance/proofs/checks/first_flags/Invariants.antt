use Rattle.std.proofs.Common.{◌≡◌, drop}
use Rattle.dist_conformance.specs.Judging.{first_flags}
use Rattle.dist_conformance.proofs.checks.first_flags.Given as goal

-- what is left decides
abbrev pub invariant-loop-one : goal.invariant-loop-one
invariant-loop-one l = first_flags l.learned ≡ first_flags (drop l.one-index l.learned)
