-- Each call has one piece less.
use Rattle.std.proofs.Common.{length}
use Rattle.dist_conversation.proofs.said.+place_in.Given as goal

abbrev pub decreases-place_in : goal.decreases-place_in
decreases-place_in l = length l.pieces.now
