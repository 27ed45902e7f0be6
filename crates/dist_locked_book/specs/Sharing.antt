-- What is made of a step's reply: its line for all holders that share it, and a copy.
use Rattle.std.specs.Prelude.{◌≡◌}
use Rattle.dist_core.specs.declared.{event.Event.Event, reply.Reply.Reply}
use Rattle.dist_locked_book.specs.{Lines.line_with, declared.shared_line.LineNumbers.LineNumbers, declared.sharing.LineCopies.LineCopies}

-- the line of this entry, with this event and this reply, three times, and the reply itself
abbrev pub AreLines : LineNumbers → Event → Reply → LineCopies → Type 0
AreLines entry v reply s = (s.line ≡ line_with entry v reply) × (s.second ≡ s.line) × (s.third ≡ s.line) × (s.reply ≡ reply)
