-- Lines that several holders share.
use Rattle.std.specs.Arc.{arc_value}
use Rattle.dist_core.specs.{declared.event.Event.Event, declared.reply.Reply.Reply, Clauses.loss_reply, Clauses.silent_reply}
use Rattle.dist_core.specs.declared.event.Event.TheVariants as event
use Rattle.dist_locked_book.specs.declared.{line.Line.Line, shared_line.LineNumbers.LineNumbers, shared_line.Kept.Kept, shared_line.LineView.LineView}
use Rattle.dist_locked_book.specs.declared.shared_line.Kept.TheVariants as kept
use Rattle.dist_locked_book.specs.declared.shared_line.LineView.TheVariants as view

-- the line of this entry, with this event and this reply
abbrev pub line_with : LineNumbers → Event → Reply → Line
line_with entry v reply = record { ticket = entry.ticket; seat = entry.seat; event = v; fresh = entry.fresh; reply = reply }

-- the line that is kept in this way
abbrev pub line_of : Kept → Line
line_of (kept.Shared line) = arc_value line
line_of (kept.Came entry link id) = line_with entry (event.Incoming link) (silent_reply id)
line_of (kept.Lost entry id why) = line_with entry (event.Lost id why) (loss_reply id why)

-- the line that is read
abbrev pub line_in : LineView → Line
line_in (view.Lent line) = line.now
line_in (view.Made line) = line
