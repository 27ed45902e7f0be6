-- WHAT PASSED OVER A STREAM while one side of a handshake was spoken.
use Rattle.std.specs.Prelude.{◌≡◌, ℕ, ◌+◌, ◌⊎◌, Bool, true, false, List, [], ◌∷◌, ◌++◌, length, Option, Some, None}
use Rattle.std.specs.{Int.w16, Io.KnownBytes.prepend_known, Io.KnownBytes.append_known}
use Rattle.dist_frames.specs.Stream.{body_frame}
use Rattle.dist_messages.specs.declared.message.Message.{Message}
use Rattle.dist_messages.specs.declared.message.Message.TheVariants as message
use Rattle.dist_messages.specs.declared.message.Side.{Side, TheVariants.Dialler, TheVariants.Acceptor}
use Rattle.dist_stream.specs.{Stream.StreamState, Turns.SaysFront, Turns.Spends, declared.turn_error.TurnError.TurnError}
use Rattle.dist_stream.specs.declared.turn_error.TurnError.TheVariants as fault
use Rattle.dist_talk.specs.{Bodies.HearsFrameOf, Bodies.IsCameOf, Bodies.stop_of, Bodies.tags_of, Handshake.Says, Handshake.said_by}
use Rattle.dist_talk.specs.{OwnSide.message_due, Standing.standing_of, Words.side_of}
use Rattle.dist_talk.specs.declared.{bodies.Came.Came, own_side.OwnSide.OwnSide, verdict.AwaitedMessage.AwaitedMessage}
use Rattle.dist_talk.specs.declared.{verdict.HandshakeVerdict.HandshakeVerdict}
use Rattle.dist_talk.specs.declared.handshake.{Handshake.Handshake, HandshakeEnd.HandshakeEnd, HowEnded.HowEnded}
use Rattle.dist_talk.specs.declared.handshake.{SentContent.SentContent, SentMessage.SentMessage}
use Rattle.dist_talk.specs.declared.bodies.Came.TheVariants as came
use Rattle.dist_talk.specs.declared.handshake.HowEnded.TheVariants as ended
use Rattle.dist_talk.specs.declared.handshake.SentContent.TheVariants as content
use Rattle.dist_talk.specs.declared.standing.Standing.TheVariants.{Due, Decided}

-- the other side
abbrev pub other_side : Side → Side
other_side Dialler = Acceptor
other_side Acceptor = Dialler

-- ---- frames

-- the bytes are the frame of a body of this side that says this
abbrev pub IsSpelled : Side → SentContent → List ℕ → Type 0
IsSpelled side c bytes = (body : List ℕ) × Says side body c × (bytes ≡ body_frame w16 body)

-- The bytes are the frames of bodies of this side that say this, one after another.
abbrev pub AreFrames : Side → List SentMessage → List ℕ → Type 0
AreFrames side [] bytes = bytes ≡ []
AreFrames side (s ∷ rest) bytes = (frame more : List ℕ) × IsSpelled side s.content frame × (bytes ≡ frame ++ more) × AreFrames side rest more

-- ---- turns

-- what each side had said after this, which a side said
abbrev pub dialler_after : Side → SentMessage → List SentMessage → List SentMessage
dialler_after Dialler s ds = ds ++ s ∷ []
dialler_after Acceptor s ds = ds

abbrev pub acceptor_after : Side → SentMessage → List SentMessage → List SentMessage
acceptor_after Dialler s ns = ns
acceptor_after Acceptor s ns = ns ++ s ∷ []

-- it says the message that is due, if one is
abbrev pub IsDue : Option Message → SentContent → Type 0
IsDue None c = ⊥
IsDue (Some m) c = c ≡ content.Message m

-- One turn: this was due after what both sides had said; and on the own side what was said is the message that is due there.
abbrev pub IsTurn : OwnSide → AwaitedMessage → SentContent → List SentMessage → List SentMessage → Type 0
IsTurn own due c ds ns = (standing_of own.terms ds ns ≡ Due due) × (side_of due ≡ own.side → IsDue (message_due own ds ns due) c)

-- THE TWO SIDES TOOK TURNS: what was said of the handshake, in this order, was each time what was due.
abbrev pub InTurn : OwnSide → List SentMessage → List SentMessage → List SentMessage → Handshake → Type 0
InTurn own [] ds ns h = (h.dialler.items ≡ ds) × (h.acceptor.items ≡ ns)
InTurn own (s ∷ rest) ds ns h = (due : AwaitedMessage) × IsTurn own due s.content ds ns
    × InTurn own rest (dialler_after (side_of due) s ds) (acceptor_after (side_of due) s ns) h

-- nothing of the handshake is missing
abbrev pub IsWhole : Handshake → Type 0
IsWhole h = h.missing ≡ record { beginning = false; dialler = false; acceptor = false }

-- ---- the end

-- the fault of a stream ends a handshake so, inside a frame of which this many bytes came
abbrev pub how_by : TurnError → ℕ → HowEnded
how_by fault.Limit count = ended.Quiet count
how_by fault.Ended count = ended.Closed
how_by other count = ended.Reset

-- the message is a reply
abbrev pub is_reply : Message → Bool
is_reply (message.Reply challenge digest) = true
is_reply other = false

-- the stream took no more of an own message: the other side ended the handshake before it had a reply that a broken connection did not take
abbrev pub how_cut : Bool → TurnError → HowEnded
how_cut true fault.WriteFailed = ended.Unread
how_cut true cause = how_by cause 0
how_cut false cause = how_by cause 0

-- what came where a message of the other side was due, or did not come, ends the handshake so; a body does if memory runs out for it
abbrev pub how_of : Came → HowEnded
how_of (came.Body body) = ended.NoMemory
how_of (came.Front front) = ended.Foreign front
how_of (came.Stopped fault count) = how_by fault count
how_of came.NoMemory = ended.NoMemory

-- nothing more came, and the stream has no fault
abbrev pub IsQuiet : Option TurnError → List ℕ → Type 0
IsQuiet stop rest = (stop ≡ None) × (rest ≡ [])

-- The own side closed the connection: it has no message where one of its is due.
pub record Leaves (own : OwnSide) (e : HandshakeEnd) (h : Handshake) (stop : Option TurnError) (rest : List ℕ) : Type 0 where
  pub due : AwaitedMessage
  pub stood : standing_of own.terms h.dialler.items h.acceptor.items ≡ Due due
  pub turn : side_of due ≡ own.side
  pub nothing : message_due own h.dialler.items h.acceptor.items due ≡ None
  pub is : e ≡ record { side = own.side; how = ended.Closed }
  pub quiet : IsQuiet stop rest

-- What came of a further frame, where one of the other side was due, ended the handshake.
pub record IsLeft (own : OwnSide) (e : HandshakeEnd) (h : Handshake) (stop : Option TurnError) (rest : List ℕ) : Type 0 where
  pub due : AwaitedMessage
  pub stood : standing_of own.terms h.dialler.items h.acceptor.items ≡ Due due
  pub turn : side_of due ≡ other_side own.side
  pub came : Came
  pub came_is : IsCameOf (tags_of (other_side own.side)) came rest
  pub stop_is : stop ≡ stop_of came
  pub is : e ≡ record { side = other_side own.side; how = how_of came }

-- The stream took no more of the own message that was said last.
pub record IsCut (own : OwnSide) (e : HandshakeEnd) (h : Handshake) (stop : Option TurnError) (rest : List ℕ) : Type 0 where
  pub cause : TurnError
  pub stop_is : stop ≡ Some cause
  pub before : List SentMessage
  pub last : SentMessage
  pub message : Message
  pub said_is : said_by own.side h ≡ before ++ last ∷ []
  pub message_is : last.content ≡ content.Message message
  pub is : e ≡ record { side = other_side own.side; how = how_cut (is_reply message) cause }
  pub nothing : rest ≡ []

-- Memory ran out here.
abbrev pub LacksMemory : OwnSide → HandshakeEnd → Option TurnError → List ℕ → Type 0
LacksMemory own e stop rest = (e ≡ record { side = other_side own.side; how = ended.NoMemory }) × IsQuiet stop rest

-- THE HANDSHAKE ENDED SO: by a side, or since what was said decides it. Seven messages are the most that a handshake has: name, status,
-- answer, challenge, complement, reply, acknowledgement.
abbrev pub EndsAs : Option HandshakeEnd → OwnSide → ℕ → Handshake → Option TurnError → List ℕ → Type 0
EndsAs None own count h stop rest =
    (((v : HandshakeVerdict) × (standing_of own.terms h.dialler.items h.acceptor.items ≡ Decided v)) ⊎ (count ≡ 7)) × IsQuiet stop rest
EndsAs (Some e) own count h stop rest = Leaves own e h stop rest ⊎ IsLeft own e h stop rest ⊎ IsCut own e h stop rest ⊎ LacksMemory own e stop rest

-- ---- what passed

-- there are no such bytes, unless the stream has a fault
abbrev pub NoneUnless : Option TurnError → List ℕ → Type 0
NoneUnless None bytes = bytes ≡ []
NoneUnless (Some cause) bytes = Unit {0}

-- THE HANDSHAKE IS WHAT PASSED, and all that had to: both sides took turns, and the own side said what was due of it; from this state of
-- the stream on the own side wrote exactly the frames of what it said, the last of which is cut off where the stream took no more; what was
-- read is exactly the frames of what the other side said, and behind them what came of a further one; it went on to its end, within these
-- reads and writes.
pub record Spoke (own : OwnSide) (h : Handshake) (old new : StreamState) (turns : ℕ) : Type 0 where
  pub order : List SentMessage
  pub in_turn : InTurn own order [] [] h
  pub whole : IsWhole h
  pub said : List ℕ
  pub cut : List ℕ
  pub front : List ℕ
  pub rest : List ℕ
  pub left : ℕ
  pub stop : Option TurnError
  pub written : new.written ≡ append_known old.written said
  pub unread : old.unread ≡ prepend_known (front ++ rest) new.unread
  pub spends : Spends old new turns left stop
  pub own_frames : AreFrames own.side (said_by own.side h) (said ++ cut)
  pub own_whole : NoneUnless stop cut
  pub other_frames : AreFrames (other_side own.side) (said_by (other_side own.side) h) front
  pub ends : EndsAs h.ending own (length order) h stop rest

-- ---- the inner steps

-- This many messages were said in turn, and exactly their frames passed; nothing ended the handshake.
pub record Going (own : OwnSide) (count : ℕ) (h : Handshake) (old new : StreamState) (turns left : ℕ) : Type 0 where
  pub order : List SentMessage
  pub many : length order ≡ count
  pub in_turn : InTurn own order [] [] h
  pub whole : IsWhole h
  pub said : List ℕ
  pub heard : List ℕ
  pub written : new.written ≡ append_known old.written said
  pub unread : old.unread ≡ prepend_known heard new.unread
  pub spends : Spends old new turns left None
  pub own_frames : AreFrames own.side (said_by own.side h) said
  pub other_frames : AreFrames (other_side own.side) (said_by (other_side own.side) h) heard
  pub goes_on : h.ending ≡ None

-- a turn, behind any that were taken before: one more, and the handshake goes on; or its end
abbrev pub Moves : Bool → OwnSide → Handshake → Handshake → StreamState → StreamState → ℕ → ℕ → Type 0
Moves true own h k old new turns left =
    (count : ℕ) (start : StreamState) (total : ℕ) → Going own count h start old total turns → Going own (count + 1) k start new total left
Moves false own h k old new turns left =
    (count : ℕ) (start : StreamState) (total : ℕ) → Going own count h start old total turns → Spoke own k start new total

-- both sides said the same
pub record SaidSame (h k : Handshake) : Type 0 where
  pub dialler : k.dialler.items ≡ h.dialler.items
  pub acceptor : k.acceptor.items ≡ h.acceptor.items
  pub missing : k.missing ≡ h.missing

-- a side said one message more
pub record SaidMore (side : Side) (c : SentContent) (h k : Handshake) : Type 0 where
  pub sent : SentMessage
  pub content_is : sent.content ≡ c
  pub dialler : k.dialler.items ≡ dialler_after side sent h.dialler.items
  pub acceptor : k.acceptor.items ≡ acceptor_after side sent h.acceptor.items
  pub missing : k.missing ≡ h.missing

-- the end by this side, if the stream has a fault at an own message, which may be a reply
abbrev pub end_by : Side → Bool → Option TurnError → Option HandshakeEnd
end_by side is_reply None = None
end_by side is_reply (Some cause) = Some (record { side = side; how = how_cut is_reply cause })

-- Memory ran out before a message was said.
pub record LacksRoom (side : Side) (h k : Handshake) (old new : StreamState) (turns left : ℕ) : Type 0 where
  pub same : SaidSame h k
  pub ending : k.ending ≡ Some (record { side = side; how = ended.NoMemory })
  pub rests : new ≡ old
  pub unspent : left ≡ turns

-- A message was said: its frame was written, or a first part of it where the stream took no more.
pub record SaysMessage (side : Side) (m : Message) (h k : Handshake) (old new : StreamState) (turns left : ℕ) : Type 0 where
  pub more : SaidMore side (content.Message m) h k
  pub frame : List ℕ
  pub spelled : IsSpelled side (content.Message m) frame
  pub stop : Option TurnError
  pub says : SaysFront old new turns left stop frame
  pub ending : k.ending ≡ end_by (other_side side) (is_reply m) stop

-- what came of a side is in the handshake: what a body says, or why none came
abbrev pub TakesCame : Side → Came → Handshake → Handshake → Type 0
TakesCame side (came.Body body) h k = ((c : SentContent) × Says side body c × SaidMore side c h k × (k.ending ≡ None))
    ⊎ (SaidSame h k × (k.ending ≡ Some (record { side = side; how = ended.NoMemory })))
TakesCame side c h k = SaidSame h k × (k.ending ≡ Some (record { side = side; how = how_of c }))

-- One frame was read, and what came is in the handshake.
pub record HearsNext (side : Side) (h k : Handshake) (old new : StreamState) (turns left : ℕ) : Type 0 where
  pub came : Came
  pub hears : HearsFrameOf old new turns left (tags_of side) came
  pub takes : TakesCame side came h k
