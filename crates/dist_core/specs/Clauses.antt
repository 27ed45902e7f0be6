-- What the clauses of a step say: which end an event names, the replies to a loss and a tick, and what may close an end that is up.
use Rattle.std.specs.Prelude.{◌≡◌, ℕ, true, List, Some, Ok, slice_get, Option, None, []}
use Rattle.dist_messages.specs.{Reading.read, declared.message.Side.TheVariants.Dialler}
use Rattle.dist_messages.specs.declared.message.Message.TheVariants as message
use Rattle.dist_peers.specs.declared.entry.EndId.{EndId}
use Rattle.dist_core_ends.specs.declared.{why.Why.Why, known.Attempt.Attempt, known.UpRecord.UpRecord}
use Rattle.dist_core_ends.specs.declared.known.End.TheVariants as ends
use Rattle.dist_core_setup.specs.{Rules.own_digest, Rules.same_bytes, Saying.tick_text}
use Rattle.dist_core.specs.{declared.event.Event.Event, declared.reply.Reply.Reply, Node.NodeState}
use Rattle.dist_core.specs.declared.event.Event.TheVariants as event
use Rattle.dist_core.specs.declared.reply.Note.TheVariants as note

-- the event is a reply with the digest of the own cookie and of the challenge that was sent on the end on which it came
pub record IsRightReply (n : NodeState) (v : Event) : Type 0 where
  pub id : EndId
  pub body : List ℕ
  pub attempt : Attempt
  pub challenge : ℕ
  pub digest : List ℕ
  pub came : v ≡ event.Frame id body
  pub at_ : slice_get n.ends id.0 ≡ Some (ends.Attempt attempt)
  pub says : read Dialler body ≡ Ok (message.Reply challenge digest)
  pub right : same_bytes digest (own_digest n.setup attempt.peer attempt.challenge) ≡ true

-- the event is a frame
abbrev pub IsFrame : Event → Type 0
IsFrame (event.Frame id body) = Unit {0}
IsFrame v = ⊥

-- where the event is a frame, the reply reports an end that was up as closed only if it is a right reply
abbrev pub ClosesOnReply : NodeState → Event → Reply → Type 0
ClosesOnReply n v r = (x : EndId) (w : Why) (kept : UpRecord) → IsFrame v → r.closed ≡ Some (x, w)
    → slice_get n.ends x.0 ≡ Some (ends.Up kept) → IsRightReply n v

-- the end that an event names
abbrev pub end_of : Event → Option EndId
end_of (event.Dial p o) = None
end_of (event.Opened x link) = Some x
end_of (event.Incoming link) = None
end_of (event.Frame x body) = Some x
end_of (event.Lost x w) = Some x
end_of (event.Tick x) = Some x

-- the reply where nothing is sent, and nothing else is reported
abbrev pub silent_reply : EndId → Reply
silent_reply x = record { end_ = x; say = []; closed = None; up = None; note = note.Nothing }

-- the reply to a tick
abbrev pub tick_reply : EndId → Reply
tick_reply x = record { end_ = x; say = tick_text; closed = None; up = None; note = note.Nothing }

-- the reply to a loss
abbrev pub loss_reply : EndId → Why → Reply
loss_reply x w = record { end_ = x; say = []; closed = Some (x, w); up = None; note = note.Nothing }
