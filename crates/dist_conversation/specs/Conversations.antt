-- A CONVERSATION: what the segments between two ports came to, from the one that begins it on.
use Rattle.std.specs.Prelude.{◌≡◌, ◌↔◌, ◌⊎◌, ℕ, ◌+◌, ◌-◌, ◌%◌, ◌^◌, ◌==◌, ◌&&◌, ◌||◌, not, nat_lt, nat_le, min, Bool, true, false}
use Rattle.std.specs.Prelude.{List, [], ◌∷◌, ◌++◌, length, map, slice_get, Option, Some, None, is_some, option_map, if◌then◌else◌}
use Rattle.std.specs.{List.Contains, List.FoldsTo, Option.option_map_or, Option.option_or}
use Rattle.dist_capture.specs.declared.segment.{Endpoint.Endpoint, Segment.Segment}
use Rattle.dist_messages.specs.declared.message.Side.{Side, TheVariants.Dialler, TheVariants.Acceptor}
use Rattle.dist_talk.specs.{Speaking.other_side, declared.unreached.Unreached.Unreached}
use Rattle.dist_talk.specs.declared.unreached.Unreached.TheVariants as unreached
use Rattle.dist_conversation.specs.Flows.{awaited_of, bytes_of, end_before, gone, is_behind, lacks_by, may_end, new_flow, with_answer, with_end, with_segment}
use Rattle.dist_conversation.specs.{Numbers.number_of_first, Pieces.turned, Recognized.look_of, Recognized.shown_of}
use Rattle.dist_conversation.specs.declared.{conversation.Conversation.Conversation, pieces.Arrival.Arrival}
use Rattle.dist_conversation.specs.declared.{flow.Flow.Flow, flow.FlowEnd.FlowEnd, looks.Shown.Shown}
use Rattle.dist_conversation.specs.declared.looks.Shown.TheVariants as shown

-- ---- two ports

-- a segment goes from one of its ports to the other one
abbrev pub Goes : Endpoint → Endpoint → Segment → Type 0
Goes from to s = (s.from ≡ from) × (s.to ≡ to)

abbrev pub IsBetween : Conversation → Segment → Type 0
IsBetween c s = Goes c.dialler c.acceptor s ⊎ Goes c.acceptor c.dialler s

-- it comes from this side
abbrev pub IsFrom : Conversation → Segment → Side → Type 0
IsFrom c s side = (side ≡ Dialler) ↔ (s.from ≡ c.dialler)

abbrev pub flow_of : Side → Conversation → Flow
flow_of Dialler c = c.from_dialler
flow_of Acceptor c = c.from_acceptor

abbrev pub with_flows : Side → Flow → Flow → Conversation → Conversation
with_flows Dialler own other c = record c { from_dialler = own; from_acceptor = other }
with_flows Acceptor own other c = record c { from_dialler = other; from_acceptor = own }

-- whoever sends a segment dialled: one that opens a connection (SYN), and does not accept it (SYN and ACK); any other one, if it does not come
-- from the port of port mappers (our own choice)
abbrev pub is_from_dialler : ℕ → Segment → Bool
is_from_dialler port s = if s.is_syn then not s.is_ack else not (s.from.port == port)

abbrev pub dialler_by : ℕ → Segment → Endpoint
dialler_by port s = if is_from_dialler port s then s.from else s.to

abbrev pub acceptor_by : ℕ → Segment → Endpoint
acceptor_by port s = if is_from_dialler port s then s.to else s.from

-- THAT OF NO SEGMENT YET, which this one begins, where port mappers have this port
abbrev pub begun : ℕ → Segment → Conversation
begun port s = record {
  dialler = dialler_by port s;
  acceptor = acceptor_by port s;
  began = s.time;
  latest = s.time;
  is_at_mapper = (acceptor_by port s).port == port;
  shown = if (acceptor_by port s).port == port then shown.Mapper else shown.Nothing;
  strays = 0;
  pieces = [];
  opening = None;
  is_dialled_again = false;
  is_certain = s.is_syn;
  is_made = false;
  is_reset = false;
  from_dialler = new_flow s.time;
  from_acceptor = new_flow s.time;
}

-- ---- a segment comes

-- it dials (SYN), and does not accept
abbrev pub is_opening : Segment → Bool
is_opening s = s.is_syn && not s.is_ack

-- it shows that the connection is dialled, or dialled again, who dialled, and that it was made
abbrev pub with_sign : Segment → Conversation → Conversation
with_sign s c = record c {
  latest = s.time;
  opening = if is_opening s then option_or c.opening (Some s.sequence) else c.opening;
  is_dialled_again = c.is_dialled_again || (is_opening s && is_some c.opening);
  is_certain = c.is_certain || s.is_syn;
  is_made = c.is_made || not (is_opening s || (s.is_reset || s.is_fin));
}

-- a side has so many bytes now: if that is more than before, a piece came
abbrev pub with_piece : Side → ℕ → ℕ → ℕ → List Arrival → List Arrival
with_piece side before until at pieces =
    if nat_lt before until then pieces ++ record { side = side; until = until; at = at } ∷ [] else pieces

-- what this side sent, and the other one acknowledged; bytes are kept while they came in fewer than 512 pieces (our own choice)
abbrev pub own_after : Side → Segment → Conversation → Flow
own_after side s c = with_segment (nat_lt (length c.pieces) 512) s (flow_of side c)

abbrev pub with_pieces : Side → Segment → Conversation → Conversation
with_pieces side s c = record (with_flows side (own_after side s c) (with_answer s.acknowledges (flow_of (other_side side) c)) c) {
  pieces = with_piece side (length (bytes_of (flow_of side c))) (length (bytes_of (own_after side s c))) s.time c.pieces;
}

-- a reset of the accepting side answers the segment that dials a connection, or that was answered
abbrev pub is_of_opening : Segment → Option ℕ → Bool
is_of_opening s None = true
is_of_opening s (Some number) = option_map_or (λ acknowledged. acknowledged == (number + 1) % 2 ^ 32) s.acknowledges false

abbrev pub may_reset : Side → Segment → Conversation → Bool
may_reset Acceptor s c = (c.is_made || not s.is_reset) || is_of_opening s c.opening
may_reset Dialler s c = true

-- a close or a reset of a side can end it; and does, once it is noted what it acknowledges; else it is counted
abbrev pub can_end : Side → Segment → Conversation → Bool
can_end side s c = may_end s (flow_of (other_side side) c).window (flow_of side c) (awaited_of (flow_of side c)) && may_reset side s c

abbrev pub with_end_of : Side → Segment → Conversation → Conversation
with_end_of side s c =
    record (with_flows side (with_end s (with_answer s.acknowledges (flow_of (other_side side) c)) (flow_of side c))
    (with_answer s.acknowledges (flow_of (other_side side) c)) c) { is_reset = c.is_reset || s.is_reset }

abbrev pub with_ending : Side → Segment → Conversation → Conversation
with_ending side s c =
    if not (s.is_fin || s.is_reset) then c
    else (if can_end side s c then with_end_of side s c else record c { strays = min 4294967295 (c.strays + 1) })

-- no more of it is kept
abbrev pub left : Conversation → Conversation
left c = record c { from_dialler = gone c.from_dialler; from_acceptor = gone c.from_acceptor; pieces = [] }

abbrev pub swapped : Conversation → Conversation
swapped c = record c {
  dialler = c.acceptor;
  acceptor = c.dialler;
  from_dialler = c.from_acceptor;
  from_acceptor = c.from_dialler;
  pieces = map turned c.pieces;
}

-- this is found to be carried; of what is not looked into no more is kept
abbrev pub left_if : Shown → Conversation → Conversation
left_if shown.Tls c = left c
left_if shown.Other c = left c
left_if found c = c

abbrev pub with_shown : Shown × Bool → Conversation → Conversation
with_shown (found, is_swapped) c = left_if found (record (if is_swapped then swapped c else c) { shown = found })

-- WHAT IT CARRIES IS RECOGNIZED, once, by the first bytes of both sides
abbrev pub recognized_from : Shown → Conversation → Conversation
recognized_from shown.Nothing c = with_shown (shown_of c.is_certain (look_of (bytes_of c.from_dialler)) (look_of (bytes_of c.from_acceptor))) c
recognized_from known c = c

abbrev pub recognized : Conversation → Conversation
recognized c = recognized_from c.shown c

-- A SEGMENT OF THIS SIDE CAME
abbrev pub taken : Side → Segment → Conversation → Conversation
taken side s c = recognized (with_ending side s (if s.is_reset then with_sign s c else with_pieces side s (with_sign s c)))

abbrev pub Takes : Conversation → Segment → Conversation → Type 0
Takes c s e = (side : Side) × IsFrom c s side × (e ≡ taken side s c)

-- THE CONVERSATION OF THESE SEGMENTS, of which the first begins it
abbrev pub IsConversation : ℕ → List Segment → Conversation → Type 0
IsConversation port talk c = (first : Segment) × (later : List Segment) × (talk ≡ first ∷ later) × FoldsTo Takes (begun port first) talk c

-- ---- what is said of it

-- between these two times our patience has an end: 6 seconds (our own choice: a node gives up after 7)
abbrev pub is_overdue_at : ℕ → ℕ → Bool
is_overdue_at since until = nat_le 6000000000 (until - since)

-- how a side ended it, if no byte before that is missing
abbrev pub end_of : Side → Conversation → Option FlowEnd
end_of side c = end_before (flow_of side c).end (awaited_of (flow_of side c))

-- THE FIRST END of the two, as far as they are known
abbrev pub first_of_ends : Option FlowEnd → Option FlowEnd → Option (Side × FlowEnd)
first_of_ends None None = None
first_of_ends (Some end) None = Some (Dialler, end)
first_of_ends None (Some end) = Some (Acceptor, end)
first_of_ends (Some end) (Some other) = if is_behind end other then Some (Acceptor, other) else Some (Dialler, end)

abbrev pub first_end : Conversation → Option (Side × FlowEnd)
first_end c = first_of_ends (end_of Dialler c) (end_of Acceptor c)

-- the same, or else an end behind bytes that are missing
abbrev pub end_behind_gap : Option FlowEnd → Option FlowEnd → Option (Side × FlowEnd)
end_behind_gap None other = option_map (λ end. (Acceptor, end)) other
end_behind_gap (Some end) other = if end.is_second then option_map (λ end. (Acceptor, end)) other else Some (Dialler, end)

abbrev pub any_end : Conversation → Option (Side × FlowEnd)
any_end c = option_or (first_end c) (end_behind_gap c.from_dialler.end c.from_acceptor.end)

-- when it ended, also by such an end, or this time
abbrev pub ended_or : Conversation → ℕ → ℕ
ended_or c now = option_map_or (λ end. end.1.at) (any_end c) now

-- THE CAPTURE LACKS BYTES OF A SIDE
abbrev pub lacks_bytes : Side → Conversation → Bool
lacks_bytes side c = lacks_by (flow_of side c) (awaited_of (flow_of side c)) (end_of (other_side side) c)

-- WHY IT WAS NEVER MADE, if that is so: the segment that dials was answered by a reset; or by nothing for long, though it was sent again
abbrev pub unreached_by : Conversation → ℕ → Option FlowEnd → Option Unreached
unreached_by c now (Some end) = if end.is_reset then Some unreached.Refused else None
unreached_by c now None = if c.is_dialled_again && is_overdue_at c.began now then Some unreached.NoAnswer else None

abbrev pub unreached_of : Conversation → ℕ → Option Unreached
unreached_of c now = if c.is_made || not (is_some c.opening) then None else unreached_by c now c.from_acceptor.end

-- ---- its bytes stand in its segments

-- the port of a side
abbrev pub port_of : Side → Conversation → Endpoint
port_of Dialler c = c.dialler
port_of Acceptor c = c.acceptor

-- this byte was captured, with this number, in a segment from this port
pub record StandsAt (talk : List Segment) (from : Endpoint) (number byte : ℕ) : Type 0 where
  pub segment : Segment
  pub is_one : Contains talk segment
  pub is_from : segment.from ≡ from
  pub no_reset : segment.is_reset ≡ false
  pub place : ℕ
  pub byte_is : slice_get segment.payload.items place ≡ Some byte
  pub number_is : number ≡ (number_of_first segment + place) % 2 ^ 32

-- EACH BYTE WITH WHICH A SIDE BEGAN STANDS AT ITS SEQUENCE NUMBER, from some one on
abbrev pub Stand : List Segment → Side → Conversation → Type 0
Stand talk side c = (first : ℕ) × ((i b : ℕ) → slice_get (bytes_of (flow_of side c)) i ≡ Some b → StandsAt talk (port_of side c) ((first + i) % 2 ^ 32) b)
