-- WHAT A CONVERSATION CARRIED, AND ITS VERDICT: how it ended, by the segments that close or reset it, and by silence; and then the one table of handshakes
-- (dist_talk, Ended.antt).
use Rattle.std.specs.Prelude.{◌≡◌, ◌⊎◌, ℕ, ◌+◌, ◌-◌, ◌==◌, ◌&&◌, ◌||◌, not, nat_le, nat_lt, max, Bool, true, false, MatchBool, if◌then◌else◌}
use Rattle.std.specs.Prelude.{List, [], ◌∷◌, length, slice_get, Option, Some, None, is_some, option_map, Ok, Err}
use Rattle.std.specs.Option.{option_map_or}
use Rattle.dist_epmd.specs.declared.message.Answer.{Answer}
use Rattle.dist_epmd.specs.declared.message.Answer.TheVariants as answer
use Rattle.dist_epmd.specs.declared.message.Request.{Request}
use Rattle.dist_epmd.specs.declared.message.Request.TheVariants as request
use Rattle.dist_epmd_calls.specs.declared.lookup_error.LookupError.{LookupError}
use Rattle.dist_epmd_calls.specs.declared.lookup_error.LookupError.TheVariants as fault
use Rattle.dist_messages.specs.declared.message.Message.TheVariants as message
use Rattle.dist_messages.specs.declared.message.Side.{Side, TheVariants.Dialler, TheVariants.Acceptor}
use Rattle.dist_talk.specs.{Bodies.BeginsForeign, Bodies.tags_of, Described.description_of, Ended.is_done, Ended.verdict_of, Handshake.ack_in}
use Rattle.dist_talk.specs.{Speaking.other_side, Standing.standing, Unreached.mapper_verdict, Unreached.port_verdict, Words.side_of}
use Rattle.dist_talk.specs.declared.handshake.{Handshake.Handshake, HandshakeEnd.HandshakeEnd, HowEnded.HowEnded, Missing.Missing}
use Rattle.dist_talk.specs.declared.handshake.{SentContent.SentContent, SentMessage.SentMessage}
use Rattle.dist_talk.specs.declared.handshake.HowEnded.TheVariants as ended
use Rattle.dist_talk.specs.declared.handshake.SentContent.TheVariants as content
use Rattle.dist_talk.specs.declared.{standing.Standing.Standing, terms.Terms.Terms, unreached.Unreached.Unreached, verdict.HandshakeVerdict.HandshakeVerdict}
use Rattle.dist_talk.specs.declared.standing.Standing.TheVariants.{Due, Decided}
use Rattle.dist_talk.specs.declared.verdict.HandshakeVerdict.TheVariants as verdict
use Rattle.dist_conversation.specs.Conversations.{first_end, flow_of, is_overdue_at, lacks_bytes, unreached_of}
use Rattle.dist_conversation.specs.{Flows.bytes_of, Flows.is_unread, Said.said_by, Said.talk_in}
use Rattle.dist_conversation.specs.declared.{carried.Carried.Carried, conversation.Conversation.Conversation, flow.FlowEnd.FlowEnd}
use Rattle.dist_conversation.specs.declared.{judge.OtherEnd.OtherEnd, looks.Shown.Shown, mapper.MapperTalk.MapperTalk}
use Rattle.dist_conversation.specs.declared.carried.Carried.TheVariants as carried
use Rattle.dist_conversation.specs.declared.looks.Shown.TheVariants as shown

-- ---- what is missing

abbrev pub says_name : SentContent → Bool
says_name (content.Message (message.NewName flags creation name)) = true
says_name (content.Message (message.OldName flags name)) = true
says_name other = false

abbrev pub begins_with_name : List SentMessage → Bool
begins_with_name [] = false
begins_with_name (first ∷ rest) = says_name first.content

-- WHAT THE CAPTURE LACKS OF A HANDSHAKE: its beginning, where something was said and the side that dialled did not begin with its name; bytes
abbrev pub missing_of : Conversation → Handshake → Missing
missing_of c h = record {
  beginning = nat_lt 0 (length h.dialler.items + length h.acceptor.items) && not (begins_with_name h.dialler.items);
  dialler = lacks_bytes Dialler c;
  acceptor = lacks_bytes Acceptor c;
}

-- ---- how it ended

-- when a side spoke last, or its connection began
abbrev pub last_said : ℕ → List SentMessage → ℕ
last_said began said = option_map_or (λ s. s.at) (slice_get said (length said - 1)) began

abbrev pub messages_of : Side → Handshake → List SentMessage
messages_of Dialler h = h.dialler.items
messages_of Acceptor h = h.acceptor.items

-- for long nobody said anything, until the first end or now
abbrev pub is_overdue : Conversation → Handshake → ℕ → Bool
is_overdue c h now =
    is_overdue_at (max (last_said c.began h.dialler.items) (last_said c.began h.acceptor.items)) (option_map_or (λ first. first.1.at) (first_end c) now)

-- this side ended it so, which for long since it spoke last had received nothing: what the other one sent again was lost on the way
abbrev pub is_in_vain : Conversation → Handshake → Side → FlowEnd → Bool
is_in_vain c h side end = (nat_lt 0 (flow_of (other_side side) c).again && is_unread (flow_of (other_side side) c) end)
    && is_overdue_at (last_said c.began (messages_of side h)) end.at

-- A SIDE WHOSE TURN IT WAS SAID NOTHING IN TIME. An accepting side that ended it first was there, and so not silent.
abbrev pub is_quiet : Conversation → Handshake → ℕ → Side → Option (Side × FlowEnd) → Bool
is_quiet c h now Acceptor (Some (Acceptor, end)) = false
is_quiet c h now Dialler (Some (Dialler, end)) = is_overdue c h now || is_in_vain c h Dialler end
is_quiet c h now side first = is_overdue c h now

-- what it means that a side ended it so
abbrev pub how_ended : Conversation → Side → FlowEnd → HowEnded
how_ended c side end =
    if is_unread (flow_of (other_side side) c) end then ended.Unread else (if end.is_reset then ended.Reset else ended.Closed)

-- by silence where this side's turn was, of which so many bytes wait, or else by the first end
abbrev pub ended_at : Conversation → Handshake → ℕ → Side → ℕ → Option HandshakeEnd
ended_at c h now side waiting =
    if is_quiet c h now side (first_end c) then Some (record { side = side; how = ended.Quiet waiting })
    else option_map (λ first. record { side = first.0; how = how_ended c first.0 first.1 }) (first_end c)

-- HOW IT ENDED where this side's turn was: by bytes of it that begin no message; or else by silence, or by the first end
abbrev pub EndsAt : Conversation → Handshake → List ℕ → ℕ → Side → Option HandshakeEnd → Type 0
EndsAt c h left now side ending =
    ((front : ℕ) × BeginsForeign (tags_of side) front left × (ending ≡ Some (record { side = side; how = ended.Foreign front })))
    ⊎ (((front : ℕ) → BeginsForeign (tags_of side) front left → ⊥) × (ending ≡ ended_at c h now side (length left)))

-- the bytes of a side, of two
abbrev pub of_both : List ℕ → List ℕ → Side → List ℕ
of_both dialler acceptor Dialler = dialler
of_both dialler acceptor Acceptor = acceptor

-- the same where a message is due, and these bytes of both sides wait; where what was said decides, none counts
abbrev pub EndsUpon : Standing → Conversation → Handshake → (Side → List ℕ) → ℕ → Option HandshakeEnd → Type 0
EndsUpon (Due due) c h left now ending = EndsAt c h (left (side_of due)) now (side_of due) ending
EndsUpon (Decided v) c h left now ending = ending ≡ None

-- THE HANDSHAKE OF A CONVERSATION, as it stands at this time
pub record IsHandshakeOf (t : Terms) (c : Conversation) (now : ℕ) (h : Handshake) : Type 0 where
  pub dialler : h.dialler.items ≡ (said_by Dialler c).messages
  pub acceptor : h.acceptor.items ≡ (said_by Acceptor c).messages
  pub missing : h.missing ≡ missing_of c h
  pub ending : EndsUpon (standing t h) c h (λ side. (said_by side c).left) now h.ending

-- ---- a port mapper, and TLS

-- why it gave no answer to what it was asked
abbrev pub fault_by : Conversation → ℕ → Option (Side × FlowEnd) → Option LookupError
fault_by c now None = if is_overdue_at c.began now then Some fault.Limit else None
fault_by c now (Some (Dialler, end)) = Some fault.Limit
fault_by c now (Some (Acceptor, end)) = Some (if end.is_reset then fault.ReadFailed else fault.Ended)

abbrev pub fault_of : Conversation → ℕ → Option LookupError
fault_of c now = if lacks_bytes Acceptor c || lacks_bytes Dialler c then None else fault_by c now (first_end c)

-- an answer is awaited that is read
abbrev pub is_read_of : Request → Bool
is_read_of request.Names = false
is_read_of asked = true

abbrev pub with_fault : Conversation → ℕ → MapperTalk → MapperTalk
with_fault c now talk = if not (is_some talk.answer) && option_map_or is_read_of talk.request false then record talk { fault = fault_of c now } else talk

abbrev pub talk_of : Conversation → Option MapperTalk
talk_of c = talk_in (bytes_of c.from_dialler) (bytes_of c.from_acceptor)

-- the accepting side took the connection and said nothing, until an end or for long
abbrev pub is_unanswered : Conversation → ℕ → Bool
is_unanswered c now =
    (is_some (first_end c) || is_overdue_at c.began now) && (not c.from_acceptor.has_spoken && not (lacks_bytes Acceptor c))

-- TLS was dialled where a plain node listens: its first two bytes are no length
pub record IsDialledByTls (h : Handshake) : Type 0 where
  pub nothing : (h.dialler.items ≡ []) × (h.acceptor.items ≡ [])
  pub ended : h.ending ≡ Some (record { side = Dialler; how = ended.Foreign 0x1603 })
  pub missing : h.missing ≡ record { beginning = false; dialler = false; acceptor = false }

-- ---- when it is judged, and what it carried then

-- all of a handshake was made, and nothing that is missing may come yet: for a second other segments came (our own choice: the capture may have them
-- in another order), or no more is kept
abbrev pub is_full : Side → Conversation → Bool
is_full side c = nat_le 8192 (length (bytes_of (flow_of side c)))

abbrev pub is_whole : Handshake → Bool
is_whole h = (is_done Dialler h.dialler.items && not h.missing.dialler) && not h.missing.acceptor

-- when the acknowledgement was there, if these messages have one
abbrev pub acknowledged_at : List SentMessage → Option ℕ
acknowledged_at [] = None
acknowledged_at (s ∷ rest) = if is_some (ack_in s.content) then Some s.at else acknowledged_at rest

abbrev pub is_settled : Conversation → Handshake → Bool
is_settled c h = option_map_or
    (λ at. is_whole h || (nat_le 1000000000 (c.latest - at) || (is_full Dialler c || is_full Acceptor c)))
    (acknowledged_at h.acceptor.items) false

-- IT IS DUE WHILE IT IS OPEN, and carried this: a handshake that was made; the answer of a port mapper, or what is no request to one
abbrev pub IsTalkDue : Option MapperTalk → Carried → Type 0
IsTalkDue None what = what ≡ carried.Nothing
IsTalkDue (Some talk) what = (is_some talk.answer ≡ true) × (what ≡ carried.Talk talk)

abbrev pub IsDueAs : Shown → Terms → Conversation → Carried → Type 0
IsDueAs shown.Handshake t c (carried.Handshake h) = IsHandshakeOf t c c.latest h × (is_settled c h ≡ true)
IsDueAs shown.Mapper t c what = IsTalkDue (talk_of c) what
IsDueAs any t c what = ⊥

-- that it was never made is said of one to a node, or to the port mapper of a host that was seen
abbrev pub known_unreached : OtherEnd → Conversation → ℕ → Option Unreached
known_unreached other c now = if other.is_node || (c.is_at_mapper && other.is_seen) then unreached_of c now else None

abbrev pub IsHandshakeIn : Terms → Conversation → ℕ → Carried → Type 0
IsHandshakeIn t c now (carried.Handshake h) = IsHandshakeOf t c now h
IsHandshakeIn t c now other = ⊥

abbrev pub IsTls : Carried → Type 0
IsTls (carried.Handshake h) = IsDialledByTls h
IsTls other = ⊥

abbrev pub CarriesAs : Shown → Terms → OtherEnd → Conversation → ℕ → Carried → Type 0
CarriesAs shown.Handshake t other c now what = IsHandshakeIn t c now what
CarriesAs shown.Mapper t other c now what = what ≡ option_map_or (λ talk. carried.Talk (with_fault c now talk)) (talk_of c) carried.Nothing
CarriesAs shown.Tls t other c now what = MatchBool (other.is_node && is_unanswered c now) (IsTls what) (what ≡ carried.Tls)
CarriesAs shown.Nothing t other c now what =
    MatchBool (other.is_node && lacks_bytes Dialler c) (IsHandshakeIn t c now what) (what ≡ carried.Nothing)
CarriesAs shown.Other t other c now what = what ≡ carried.Nothing

-- AT ITS END IT CARRIED THIS: nothing, since it was never made; or what its first bytes show
abbrev pub CarriesOr : Option Unreached → Terms → OtherEnd → Conversation → ℕ → Carried → Type 0
CarriesOr (Some u) t other c now what = what ≡ carried.Unreached u
CarriesOr None t other c now what = CarriesAs c.shown t other c now what

abbrev pub CarriesAtEnd : Terms → OtherEnd → Conversation → ℕ → Carried → Type 0
CarriesAtEnd t other c now what = CarriesOr (known_unreached other c now) t other c now what

-- ---- the verdict

-- what a port mapper answered, or that it did not, if anything is wrong with it
abbrev pub answer_verdict : Answer → Option HandshakeVerdict
answer_verdict (answer.AliveX code creation) = if code == 0 then None else Some verdict.NameInUse
answer_verdict (answer.Alive code creation) = if code == 0 then None else Some verdict.NameInUse
answer_verdict (answer.Port (Err code)) = Some verdict.NotRegistered
answer_verdict (answer.Port (Ok info)) = None
answer_verdict (answer.Names port text) = None

abbrev pub talk_verdict : Option Answer → Option LookupError → Option HandshakeVerdict
talk_verdict (Some said) fault = answer_verdict said
talk_verdict None fault = option_map verdict.MapperFault fault

-- THE VERDICT ON WHAT WAS CARRIED, if it has one
abbrev pub verdict_on : Terms → Bool → Carried → Option HandshakeVerdict
verdict_on t at_mapper (carried.Handshake h) = Some (verdict_of t h)
verdict_on t at_mapper (carried.Unreached u) = Some (if at_mapper then mapper_verdict u else port_verdict u)
verdict_on t at_mapper (carried.Talk talk) = talk_verdict talk.answer talk.fault
verdict_on t at_mapper other = None

-- a talk with a port mapper; and the name that a side says in a handshake, empty if it says none
abbrev pub is_talk : Carried → Bool
is_talk (carried.Talk talk) = true
is_talk other = false

abbrev pub name_said : Side → Carried → List ℕ
name_said side (carried.Handshake h) = option_map_or (λ description. description.0) (description_of side h) []
name_said side other = []

-- ---- what verdicts show

-- the accepting side closed the connection first, had received all that is there of the other one, and none of its own bytes is missing
pub record IsRefusal (c : Conversation) : Type 0 where
  pub end : FlowEnd
  pub first : first_end c ≡ Some (Acceptor, end)
  pub closed : end.is_reset ≡ false
  pub all_read : is_unread c.from_dialler end ≡ false
  pub whole : lacks_bytes Acceptor c ≡ false

-- for six seconds nobody said anything whole; or the side that dialled ended it, which for six seconds had received nothing of what was sent again
abbrev pub IsWaited : Conversation → Handshake → ℕ → Type 0
IsWaited c h now = (is_overdue c h now ≡ true) ⊎ ((end : FlowEnd) × (first_end c ≡ Some (Dialler, end)) × (is_in_vain c h Dialler end ≡ true))
