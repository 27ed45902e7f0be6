use Rattle.dist_audit.proofs.Words.{◌≡◌, drop, falls}
use Rattle.dist_audit.proofs.checks.falls.Given as goal

-- what is left decides
abbrev pub invariant-loop-one : goal.invariant-loop-one
invariant-loop-one l = falls (drop l.one-index l.closed) ≡ falls l.closed
