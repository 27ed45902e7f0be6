-- Each call has one piece less.
use Rattle.std.proofs.Common.{length}
use Rattle.dist_conversation.proofs.said.+time_in.Given as goal

abbrev pub decreases-time_in : goal.decreases-time_in
decreases-time_in l = length l.pieces.now
