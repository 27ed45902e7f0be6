use Rattle.dist_script_play.proofs.Words.{ArePlaces}
use Rattle.dist_script_play.proofs.agreements.places.Given as goal

-- the places of those so far
abbrev pub invariant-loop-place : goal.invariant-loop-place
invariant-loop-place l = ArePlaces l.places l.setups l.place
