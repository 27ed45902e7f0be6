-- WHAT ONE SIDE OF A CONVERSATION SENDS, by the segments that came of it, one after another.
use Rattle.std.specs.Prelude.{ℕ, ◌+◌, ◌-◌, ◌%◌, ◌^◌, ◌==◌, ◌&&◌, ◌||◌, not, nat_lt, nat_le, max, min, Bool, true, false, List, [], length, take}
use Rattle.std.specs.Prelude.{Option, Some, None, is_some, option_map, if◌then◌else◌, unwrap_or}
use Rattle.std.specs.Option.{option_map_or}
use Rattle.dist_capture.specs.Streams.{Gathering, awaiting, taken}
use Rattle.dist_capture.specs.declared.segment.{Segment.Segment}
use Rattle.dist_conversation.specs.Numbers.{distance, end_number, is_ahead, is_beyond, is_known_ahead, latest_number, number_of_first, size_of}
use Rattle.dist_conversation.specs.declared.flow.{Flow.Flow, FlowEnd.FlowEnd}

-- nothing yet, and the first segment of its connection was captured at this time
abbrev pub new_flow : ℕ → Flow
new_flow at = record {
  stream = None;
  is_read = true;
  sent = None;
  received = None;
  window = 0;
  has_spoken = false;
  heard = at;
  latest = at;
  again = 0;
  end = None;
}

-- ---- its bytes

-- the number of the byte from which on it is read: the one that the other side awaited before, if the first segment begins close behind it (our
-- own choice)
abbrev pub first_read : Option ℕ → Segment → ℕ
first_read None s = number_of_first s
first_read (Some number) s =
    if not s.is_syn && nat_lt (distance (number_of_first s) number) 65536 then number % 2 ^ 32 else number_of_first s

-- its stream, which begins with this segment if it has not begun; nothing is kept that is more than 4,096 bytes behind a gap (our own choice)
abbrev pub begun_by : Segment → Flow → Option Gathering
begun_by s f = if f.is_read then Some (unwrap_or f.stream (awaiting (first_read f.received s) 4096)) else f.stream

-- once the bytes of a segment came, each at its number: of more than 8,192 no more are kept (our own choice)
abbrev pub gathered : Segment → Gathering → Gathering
gathered s g = taken g (number_of_first s) (take (8192 - length g.ready) s.payload.items)

-- THE BYTES WITH WHICH IT BEGAN, up to the first that is not there
abbrev pub ready_in : Option Gathering → List ℕ
ready_in None = []
ready_in (Some g) = g.ready

abbrev pub bytes_of : Flow → List ℕ
bytes_of f = ready_in f.stream

-- no more of it is kept and read
abbrev pub gone : Flow → Flow
gone f = record f { stream = None; is_read = false }

-- ---- a segment comes

-- bytes of it were sent before, and the other side has not acknowledged all of it
abbrev pub is_again : Segment → Flow → Bool
is_again s f = is_known_ahead f.sent (Some (number_of_first s)) && is_beyond (end_number s) f.received

-- a close without bytes may have any number, unless none is known yet
abbrev pub shows_number : Segment → Flow → Bool
shows_number s f = (not s.is_fin || not (number_of_first s == end_number s)) || not (is_some f.sent)

abbrev pub with_bytes : Segment → Flow → Flow
with_bytes s f = if size_of s == 0 then f else record f {
  has_spoken = true;
  latest = s.time;
  again = if is_again s f then min 4294967295 (f.again + 1) else f.again;
}

-- A SEGMENT OF THIS SIDE CAME, which is no reset
abbrev pub with_segment : Bool → Segment → Flow → Flow
with_segment room s f = record (with_bytes s f) {
  stream = if room then option_map (gathered s) (begun_by s f) else begun_by s f;
  sent = if shows_number s f then latest_number (end_number s) f.sent else f.sent;
  window = max f.window s.window;
  heard = s.time;
}

-- THE OTHER SIDE ACKNOWLEDGED what came before this number, if its segment says so: what is sent again is counted anew if that is new
abbrev pub with_answer : Option ℕ → Flow → Flow
with_answer None f = f
with_answer (Some number) f = if is_beyond number f.received then record f { received = Some number; again = 0 } else f

-- ---- how it ended

-- the number of the byte that is awaited of it; once its bytes are not read any more, the one behind all that were sent
abbrev pub awaited_in : Option Gathering → Option ℕ → Option ℕ
awaited_in None sent = sent
awaited_in (Some stream) sent = Some stream.next

abbrev pub awaited_of : Flow → Option ℕ
awaited_of f = awaited_in f.stream f.sent

-- an end, if no byte before it is missing
abbrev pub end_before : Option FlowEnd → Option ℕ → Option FlowEnd
end_before None awaited = None
end_before (Some end) awaited = if is_known_ahead (Some end.number) awaited then None else Some end

-- a segment has a number by which it may end the connection: a reset one that the other side awaits, which is ready to take so many bytes (RFC
-- 9293, 3.10.7.4), or that it acknowledged; a close none that came before
abbrev pub may_end : Segment → ℕ → Flow → Option ℕ → Bool
may_end s window f None = true
may_end s window f (Some next) =
    if s.is_reset
    then nat_le (distance (end_number s) next) window || option_map_or (λ number. number == end_number s) f.received false
    else not (is_ahead next (end_number s))

-- THIS SIDE ENDED THE CONNECTION by this segment: an end before which bytes are missing gives way to another one
abbrev pub with_end : Segment → Flow → Flow → Flow
with_end s other f = if is_some (end_before f.end (awaited_of f)) then f else record f {
  end = Some (record {
    at = s.time;
    is_reset = s.is_reset;
    number = end_number s;
    received = other.received;
    is_second = is_some other.end;
  });
}

-- the end of a side acknowledges that of the other one
abbrev pub is_answer : FlowEnd → FlowEnd → Bool
is_answer end other = option_map_or (λ number. number == (other.number + 1) % 2 ^ 32) end.received false

-- it came behind that: it acknowledges it, or was captured behind it and is not acknowledged
abbrev pub is_behind : FlowEnd → FlowEnd → Bool
is_behind end other = is_answer end other || (end.is_second && not (is_answer other end))

-- the other side, which ended so, had not received all that is there
abbrev pub is_unread : Flow → FlowEnd → Bool
is_unread f end = is_known_ahead (awaited_of f) end.received

-- ---- what is missing

-- the number behind all that is there of a side that awaits this one: a close counts as one byte
abbrev pub close_length : Option FlowEnd → ℕ
close_length None = 0
close_length (Some end) = if end.is_reset then 0 else 1

abbrev pub number_behind : Flow → ℕ → ℕ
number_behind f awaited = (awaited + close_length (end_before f.end (Some awaited))) % 2 ^ 32

-- it sent bytes behind this number, or ended behind it
abbrev pub is_past : Flow → ℕ → Bool
is_past f last = is_known_ahead (option_map (λ end. end.number) f.end) (Some last) || is_known_ahead f.sent (Some last)

-- the other side, which ended so, had received no more than what is there up to this number
abbrev pub has_no_more : ℕ → Option FlowEnd → Bool
has_no_more awaited None = false
has_no_more awaited (Some reader) = option_map_or (λ received. not (is_ahead received awaited)) reader.received false

-- BYTES OF A SIDE THAT AWAITS THIS NUMBER ARE MISSING, where the other side ended so: that received more; or this one sent more, and the other
-- one did not end without it
abbrev pub lacks_by : Flow → Option ℕ → Option FlowEnd → Bool
lacks_by f None reader = is_some f.received
lacks_by f (Some awaited) reader =
    is_known_ahead f.received (Some (number_behind f awaited)) || (is_past f (number_behind f awaited) && not (has_no_more awaited reader))
