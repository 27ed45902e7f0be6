use Rattle.dist_script_play.proofs.Words.{drop, PutSoFar, nodes_from, nodes_text}
use Rattle.dist_script_play.proofs.nodes.print_nodes.Given as goal

-- the lines of the nodes so far, and of those that are left, are all lines
abbrev pub invariant-loop-place : goal.invariant-loop-place
invariant-loop-place g l = PutSoFar (nodes_text l.world) (g.W.Write.contents l.fn.out) (g.W.Write.contents l.out) (nodes_from l.world l.place (drop l.place (let w = l.world in w.setups)))
