-- What was read, and what is left, are what the side said.
use Rattle.std.proofs.Common.{◌-◌, length}
use Rattle.dist_conversation.proofs.Saying.{Reads}
use Rattle.dist_conversation.proofs.said.read_all.Given as goal

abbrev pub invariant-messages : goal.invariant-messages
invariant-messages l = Reads l.side l.pieces l.bytes l.messages.items l.count

abbrev pub decreases-messages : goal.decreases-messages
decreases-messages l = 8 - length l.messages.items
