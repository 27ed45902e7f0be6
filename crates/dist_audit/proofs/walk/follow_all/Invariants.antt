use Rattle.dist_audit.proofs.{Words.drop, Walking.Decides}
use Rattle.dist_audit.proofs.walk.follow_all.Given as goal

-- what is left decides
abbrev pub invariant-loop-i : goal.invariant-loop-i
invariant-loop-i l = Decides l.lines l.count l.links l.world (drop l.i l.lines) l.fn.world
