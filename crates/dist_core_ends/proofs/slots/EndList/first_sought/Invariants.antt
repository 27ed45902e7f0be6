use Rattle.dist_core_ends.proofs.Words.{IsPast}
use Rattle.dist_core_ends.proofs.slots.EndList.first_sought.Given as goal

abbrev pub invariant-loop-i : goal.invariant-loop-i
invariant-loop-i l = IsPast l.sought l.self.items l.i
