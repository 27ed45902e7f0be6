-- WHERE A VERDICT COMES FROM: a handshake that was spoken, or the way to it.
use Rattle.std.specs.Prelude.{◌≡◌, ℕ, ◌+◌, ◌<◌, ◌⊎◌, ◌==◌, ◌&&◌, Bool, true, false, List, length, Option, Some, None, Result, Ok, Err, if◌then◌else◌, is_some}
use Rattle.std.specs.{Borrow.Bor, List.slice_index_or}
use Rattle.dist_epmd.specs.declared.message.NodeInfo.{NodeInfo}
use Rattle.dist_messages.specs.declared.message.Side.{Side, TheVariants.Dialler, TheVariants.Acceptor}
use Rattle.dist_stream.specs.Stream.{Reads, StreamState}
use Rattle.dist_stream.specs.declared.stream.Heard.{Heard}
use Rattle.dist_stream.specs.declared.stream.Heard.TheVariants as heard
use Rattle.dist_talk.specs.{Ended.verdict_of, Handshake.or_first, Speaking.Spoke, Terms.target_of, Words.status_of}
use Rattle.dist_talk.specs.declared.{handshake.Handshake.Handshake, handshake.HandshakeEnd.HandshakeEnd, own_side.OwnSide.OwnSide}
use Rattle.dist_talk.specs.declared.handshake.HowEnded.TheVariants as ended
use Rattle.dist_talk.specs.declared.verdict.{NoCookie.NoCookie, HandshakeVerdict.HandshakeVerdict}
use Rattle.dist_talk.specs.declared.service.Service.TheVariants as service
use Rattle.dist_talk.specs.declared.terms.Viewpoint.TheVariants as viewpoint
use Rattle.dist_talk.specs.declared.verdict.AwaitedMessage.TheVariants as awaited
use Rattle.dist_talk.specs.declared.verdict.HandshakeVerdict.TheVariants as verdict
use Rattle.distping.specs.declared.links.{attempt.Stop.Stop, tries.Tries.Tries}
use Rattle.distping.specs.declared.links.attempt.Stop.TheVariants as stop
use Rattle.distping_words.specs.declared.command.Choices.{Choices}
use Rattle.distping_report.specs.{Results.IsCallerText, Sinks.Prints, Sinks.SinkState}
use Rattle.distping_report.specs.declared.{asked.Dial.Dial, asked.Listen.Listen, found.Caller.Caller, found.Found.Found}

-- both sides said the same; behind it at most an end was noted
abbrev pub GoesOnAs : Handshake → Handshake → Type 0
GoesOnAs talk h = (h.dialler.items ≡ talk.dialler.items) × (h.acceptor.items ≡ talk.acceptor.items) × (h.missing ≡ talk.missing)
    × ((h.ending ≡ talk.ending) ⊎ (talk.ending ≡ None))

-- the end of a handshake, with what a read behind it gave: no bytes are an end of this side, a failure is its reset; the first end counts
abbrev pub end_heard : Side → Heard → Option HandshakeEnd → Option HandshakeEnd
end_heard side (heard.Bytes count) e = if count == 0 then or_first e (record { side = side; how = ended.Closed }) else e
end_heard side heard.Failed e = or_first e (record { side = side; how = ended.Reset })
end_heard side heard.Quiet e = e

-- ONE READ BEHIND A HANDSHAKE: an end of this side is noted exactly if it gave no bytes, or failed
pub record LooksBehind (side : Side) (old new : StreamState) (h k : Handshake) : Type 0 where
  pub heard : Heard
  pub room : List ℕ
  pub reads : Reads old new room heard
  pub ending : k.ending ≡ end_heard side heard h.ending

-- THIS SIDE OF THE HANDSHAKE WAS SPOKEN OVER A STREAM, in at most this many reads and writes: what both sides said is what passed
pub record IsSpoken (own : OwnSide) (turns : ℕ) (h : Handshake) : Type 0 where
  pub talk : Handshake
  pub before : StreamState
  pub after : StreamState
  pub spoke : Spoke own talk before after turns
  pub behind : GoesOnAs talk h

-- the most reads and writes of a talk
abbrev pub turns_of : Choices → ℕ
turns_of c = c.seconds + 4096

-- ---- a node that is dialled

-- what is said and judged of a node that is dialled
pub record IsDialling (d : Dial) (own : OwnSide) : Type 0 where
  pub side : own.side ≡ Dialler
  pub viewpoint : own.terms.viewpoint ≡ viewpoint.Dialler
  pub target : target_of own.terms ≡ Some d.node.now
  pub cookie : own.terms.cookie ≡ d.cookie
  pub name : own.setup.now.name ≡ d.own.now
  pub flags : own.setup.now.flags ≡ d.choices.flags

-- the node ended the connection where its status was due
abbrev pub is_left_alone : HandshakeVerdict → Bool
is_left_alone (verdict.Gone awaited.Status) = true
is_left_alone (verdict.Reset awaited.Status) = true
is_left_alone other = false

-- a node is of version 5: its port mapper says that it speaks no higher version
abbrev pub is_of_version_5 : Option NodeInfo → Bool
is_of_version_5 None = false
is_of_version_5 (Some info) = info.highest == 5

-- the same verdict; of such a node one of version 5, by its registration, or one that speaks TLS, by a second connection
abbrev pub explanation : Bool → Bool → HandshakeVerdict → HandshakeVerdict
explanation is_old is_tls v =
    if is_old && is_left_alone v then verdict.Version5 else
    if is_tls && is_left_alone v then verdict.Foreign Acceptor service.Tls else v

-- THE VERDICT OF A TALK: what the handshake came to, in which this side was spoken
pub record TalkComesTo (d : Dial) (h : Handshake) (v : HandshakeVerdict) : Type 0 where
  pub own : OwnSide
  pub dialling : IsDialling d own
  pub spoken : IsSpoken own (turns_of d.choices) h
  pub is : v ≡ verdict_of own.terms h

-- the same, explained: a second connection may have shown that the port speaks TLS
pub record ComesOf (d : Dial) (registration : Option NodeInfo) (h : Handshake) (v : HandshakeVerdict) : Type 0 where
  pub came : HandshakeVerdict
  pub talk : TalkComesTo d h came
  pub is_tls : Bool
  pub is : v ≡ explanation (is_of_version_5 registration) is_tls came

-- the same of a handshake that was kept
abbrev pub TalkKept : Dial → Option Handshake → HandshakeVerdict → Type 0
TalkKept d None v = ⊥
TalkKept d (Some h) v = TalkComesTo d h v

-- a verdict of the way to a node: on its host, the port mapper, the registration, the port, or this machine
abbrev pub is_way : HandshakeVerdict → Bool
is_way (verdict.NoHost cause) = true
is_way verdict.ResolverSilent = true
is_way verdict.MapperRefused = true
is_way (verdict.MapperUnreachable cause) = true
is_way (verdict.MapperFault error) = true
is_way verdict.NotRegistered = true
is_way verdict.PortRefused = true
is_way (verdict.PortUnreachable cause) = true
is_way verdict.NoMemory = true
is_way verdict.NoDescriptors = true
is_way other = false

-- the verdict of the talk, or, if none was made, one of the way
abbrev pub ComesBy : Dial → Option NodeInfo → Option Handshake → HandshakeVerdict → Type 0
ComesBy d registration None v = is_way v ≡ true
ComesBy d registration (Some h) v = ComesOf d registration h v

-- THE VERDICT OF A PROBE: it comes of what was found out
abbrev pub Comes : Dial → Found → HandshakeVerdict → Type 0
Comes d found v = ComesBy d found.registration found.handshake v

-- what stops a probe before the talk: one of these, or a fault of this side
abbrev pub StopsOnWay : Stop → Type 0
StopsOnWay (stop.Verdict v) = is_way v ≡ true
StopsOnWay (stop.Fault fault) = Unit {0}

-- the verdict, or what stopped the probe, comes of what was found out
abbrev pub OutcomeComes : Dial → Found → Result HandshakeVerdict Stop → Type 0
OutcomeComes d found (Ok v) = Comes d found v
OutcomeComes d found (Err (stop.Verdict v)) = Comes d found v
OutcomeComes d found (Err (stop.Fault fault)) = Unit {0}

-- the same of each address that was tried
abbrev pub AllCome : Dial → Tries → Type 0
AllCome d all = (i : ℕ) (f : Found) (v : HandshakeVerdict) → i < length all.verdicts.items
    → Comes d (slice_index_or all.found.items i f) (slice_index_or all.verdicts.items i v)

-- ---- a node that dials

-- THE VERDICT OF A CONNECTION: that of the handshake in which this side was spoken; without a connection that nobody dialled
abbrev pub ComesIn : Listen → Option Handshake → HandshakeVerdict → Type 0
ComesIn l None v = v ≡ verdict.NoCaller
ComesIn l (Some h) v = IsSpoken l.own (turns_of l.choices) h × (v ≡ verdict_of l.own.terms h)

-- the exit status is that of such a verdict, and the text of the result was printed
pub record EndsWith (l : Listen) (json : Bool) (old new : SinkState) (status : ℕ) : Type 0 where
  pub caller : Caller
  pub verdict : HandshakeVerdict
  pub comes : ComesIn l caller.handshake verdict
  -- only if nobody called is there nothing to judge
  pub nobody : is_some caller.handshake ≡ false → caller.address ≡ None
  pub is : status ≡ status_of verdict
  pub text : List ℕ
  pub shows : IsCallerText json l caller verdict text
  pub printed : Prints text old new

-- what is said and judged of a node that dials: this side has this name, and tries this cookie
pub record IsListening (name : List ℕ) (cookie : Result (Bor (List ℕ)) NoCookie) (choices : Choices) (l : Listen) : Type 0 where
  pub side : l.own.side ≡ Acceptor
  pub viewpoint : l.own.terms.viewpoint ≡ viewpoint.Acceptor
  pub name_is : l.own.setup.now.name ≡ name
  pub target : target_of l.own.terms ≡ Some name
  pub cookie_is : l.own.terms.cookie ≡ cookie
  pub flags : l.own.setup.now.flags ≡ choices.flags
  pub choices_are : l.choices ≡ choices

-- THE EXIT STATUS OF A LISTENER of this name, with this cookie, and what it printed
pub record ListenEndsWith (name : List ℕ) (cookie : Result (Bor (List ℕ)) NoCookie) (choices : Choices) (old new : SinkState)
    (status : ℕ) : Type 0 where
  pub listen : Listen
  pub listening : IsListening name cookie choices listen
  pub ends : EndsWith listen choices.json old new status
