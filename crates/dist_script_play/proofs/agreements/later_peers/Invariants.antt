use Rattle.dist_script_play.proofs.Words.{AreLater}
use Rattle.dist_script_play.proofs.agreements.later_peers.Given as goal

-- the places of the rows so far
abbrev pub invariant-loop-row : goal.invariant-loop-row
invariant-loop-row l = AreLater l.later l.places l.place l.node l.row
