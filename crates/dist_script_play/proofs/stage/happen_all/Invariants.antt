use Rattle.dist_script_play.proofs.{Words.length, Stages.HappenedSoFar}
use Rattle.dist_script_play.proofs.stage.happen_all.Given as goal

-- the lines of those so far were put on the page
abbrev pub invariant-loop-rest : goal.invariant-loop-rest
invariant-loop-rest g l = HappenedSoFar l.fn.world l.happenings (g.W.Write.contents l.fn.out) (g.W.Write.contents l.out) l.fn.page.text.items l.page.text.items l.world l.rest l.applied

abbrev pub decreases-loop-rest : goal.decreases-loop-rest
decreases-loop-rest g l = length l.rest
