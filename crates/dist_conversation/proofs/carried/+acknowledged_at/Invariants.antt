-- Each call has one message less.
use Rattle.std.proofs.Common.{length}
use Rattle.dist_conversation.proofs.carried.+acknowledged_at.Given as goal

abbrev pub decreases-acknowledged_at : goal.decreases-acknowledged_at
decreases-acknowledged_at l = length l.said.now
