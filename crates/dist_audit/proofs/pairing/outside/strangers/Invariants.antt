use Rattle.dist_audit.proofs.Words.{◌≡◌, ◌+◌, ◌≤◌, drop, strangers}
use Rattle.dist_audit.proofs.pairing.outside.strangers.Given as goal

-- with those that are left they are all
abbrev pub invariant-loop-i : goal.invariant-loop-i
invariant-loop-i l = record { count : l.count + strangers (drop l.i l.noted) ≡ strangers l.noted; few : l.count ≤ l.i }
