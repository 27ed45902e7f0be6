use Rattle.dist_script_play.proofs.{Words.length, Pairing.RowSoFar}
use Rattle.dist_script_play.proofs.agreements.print_later.Given as goal

-- those before the next one are printed
abbrev pub invariant-loop-other : goal.invariant-loop-other
invariant-loop-other g l = RowSoFar l.world l.place l.later (g.W.Write.contents l.fn.out) (g.W.Write.contents l.out)

abbrev pub decreases-loop-other : goal.decreases-loop-other
decreases-loop-other g l = length l.later.keys
