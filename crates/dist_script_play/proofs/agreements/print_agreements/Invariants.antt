use Rattle.dist_script_play.proofs.Pairing.{PairsSoFar}
use Rattle.dist_script_play.proofs.agreements.print_agreements.Given as goal

-- the pairs of those before are printed
abbrev pub invariant-loop-place : goal.invariant-loop-place
invariant-loop-place g l = PairsSoFar l.world l.place (g.W.Write.contents l.fn.out) (g.W.Write.contents l.out)
