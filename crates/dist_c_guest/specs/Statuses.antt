-- The statuses that a step received and sent.
use Rattle.std.specs.Prelude.{◌≡◌, ℕ, List, Option, Some, None, Result, Ok, option_and_then}
use Rattle.std.specs.{Int.w16, Option.option_or}
use Rattle.dist_frames.specs.Stream.{first_body}
use Rattle.dist_messages.specs.{declared.message.Side.TheVariants.Dialler, declared.message.Side.TheVariants.Acceptor, declared.message.Status.Status}
use Rattle.dist_messages.specs.{declared.message.Message.Message, declared.message_error.MessageError.MessageError, Reading.read}
use Rattle.dist_messages.specs.declared.message.Status.TheVariants as status
use Rattle.dist_messages.specs.declared.message.Message.TheVariants as message
use Rattle.dist_core.specs.declared.{event.Event.Event, reply.Reply.Reply}
use Rattle.dist_core.specs.declared.event.Event.TheVariants as event
use Rattle.dist_c_guest.specs.declared.guest.Guest.{Guest}

-- the status that was read, where a message was read that is one
abbrev pub status_in : Result Message MessageError → Option Status
status_in (Ok (message.Status s)) = Some s
status_in _ = None

-- THE STATUS THAT A BODY SPELLS, sent by either side: no text is that of a status of both
abbrev pub status_of : List ℕ → Option Status
status_of body = option_or (status_in (read Acceptor body)) (status_in (read Dialler body))

-- the status that a step receives: that of the frame which it takes
abbrev pub status_received : Event → Option Status
status_received (event.Frame id body) = status_of body
status_received _ = None

-- the status that a reply sends: that of its first frame, since none sends a status behind another message
abbrev pub status_sent : Reply → Option Status
status_sent r = option_and_then status_of (first_body w16 r.say)

-- the number of a status, and 0 where there is none
abbrev pub status_number : Option Status → ℕ
status_number None = 0
status_number (Some status.Ok) = 1
status_number (Some status.OkSimultaneous) = 2
status_number (Some status.Nok) = 3
status_number (Some status.NotAllowed) = 4
status_number (Some status.Alive) = 5
status_number (Some status.True) = 6
status_number (Some status.False) = 7

-- the status that the newest step sent and the one that it received are reported
abbrev pub ReportsStatuses : Guest → ℕ → ℕ → ℕ → Type 0
ReportsStatuses s code is has = (code ≡ 0) × (is ≡ status_number (option_and_then status_sent s.last)) × (has ≡ status_number s.received_status)
