-- TCP segments (RFC 9293, 3.1).
use Rattle.std.specs.Prelude.{ℕ, ◌-◌, ◌*◌, ◌/◌, ◌%◌, Bool, List, length, drop, Option, Some, None, Result, Ok, Err, nat_lt, slice_index, ◌==◌, if◌then◌else◌}
use Rattle.dist_capture.specs.{Parts.two, Parts.four, Parts.◌>>=◌, Link.datagram_of, Network.numbers_of, Network.Carried, Network.segment_in}
use Rattle.dist_capture.specs.declared.skipped.Skipped.{Skipped, TheVariants.CutShort, TheVariants.Malformed}
use Rattle.dist_capture.specs.declared.{segment.Endpoint.Endpoint, tcp.FoundSegment.FoundSegment}

-- one end of a connection
pub record Place : Type 0 where
  pub address : List ℕ
  pub port : ℕ

-- a segment, without its time
pub record Said : Type 0 where
  pub from : Place
  pub to : Place
  pub sequence : ℕ
  -- the next sequence number that the sender awaits from the other side, if the ACK bit is set
  pub acknowledges : Option ℕ
  -- how many bytes the sender is ready to take, not scaled
  pub window : ℕ
  pub is_fin : Bool
  pub is_syn : Bool
  pub is_reset : Bool
  pub is_ack : Bool
  -- what was captured of the payload, and how many bytes were not
  pub payload : List ℕ
  pub missing : ℕ

-- whether this bit of the flags is set
abbrev pub is_set : ℕ → List ℕ → Bool
is_set bit segment = slice_index segment 13 / bit % 2 == 1

-- the number that is ack_number, which counts only with the ACK bit
abbrev pub ack_number : List ℕ → Option ℕ
ack_number segment = if is_set 16 segment then Some (four 8 segment) else None

-- where the payload begins
abbrev pub header_of : List ℕ → ℕ
header_of segment = 4 * (slice_index segment 12 / 16)

-- the segment that an IP packet has
abbrev pub said : Carried → Said
said c = record {
  from = record { address = c.source; port = two 0 c.segment };
  to = record { address = c.target; port = two 2 c.segment };
  sequence = four 4 c.segment;
  acknowledges = ack_number c.segment;
  window = two 14 c.segment;
  is_fin = is_set 1 c.segment;
  is_syn = is_set 2 c.segment;
  is_reset = is_set 4 c.segment;
  is_ack = is_set 16 c.segment;
  payload = drop (header_of c.segment) c.segment;
  missing = c.size - length c.segment;
}

-- the same, if its lengths agree and its header was captured
abbrev pub said_by : Carried → Result Said Skipped
said_by c =
    if nat_lt c.size 20 then Err Malformed
    else if nat_lt (length c.segment) 20 then Err CutShort
    else if nat_lt (header_of c.segment) 20 then Err Malformed
    else if nat_lt c.size (header_of c.segment) then Err Malformed
    else if nat_lt (length c.segment) (header_of c.segment) then Err CutShort
    else Ok (said c)

-- THE SEGMENT OF A PACKET of a link of this type
unfoldable pub segment_of : ℕ → List ℕ → Result Said Skipped
segment_of link bytes = datagram_of link bytes >>= segment_in >>= said_by

-- a segment as the code has it
abbrev pub place_of : Endpoint → Place
place_of e = record { address = numbers_of e.address; port = e.port }

abbrev pub view_of : FoundSegment → Said
view_of f = record {
  from = place_of f.from;
  to = place_of f.to;
  sequence = f.sequence;
  acknowledges = f.acknowledges;
  window = f.window;
  is_fin = f.is_fin;
  is_syn = f.is_syn;
  is_reset = f.is_reset;
  is_ack = f.is_ack;
  payload = f.payload.now;
  missing = f.missing;
}

abbrev pub shown : Result FoundSegment Skipped → Result Said Skipped
shown (Ok f) = Ok (view_of f)
shown (Err e) = Err e
