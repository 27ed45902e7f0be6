-- The pieces before this one are turned.
use Rattle.dist_conversation.proofs.Turning.{Turned}
use Rattle.dist_conversation.proofs.pieces.Pieces.swap_sides.Given as goal

abbrev pub invariant-loop-piece : goal.invariant-loop-piece
invariant-loop-piece l = Turned l.initial.piece-items l.piece-items l.piece-index
