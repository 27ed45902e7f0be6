-- A reader of a capture, to which the file comes in pieces.
use Rattle.std.specs.Prelude.{◌≡◌, ℕ, ◌+◌, ◌⊎◌, Bool, true, false, ◌||◌, List, [], ◌∷◌, ◌++◌, length, take, drop, Option, Some, None}
use Rattle.std.specs.Prelude.{option_to_list, Result, Ok, Err, nat_lt, if◌then◌else◌}
use Rattle.dist_capture.specs.{Parts.part, Tcp.Said, Tcp.segment_of, Tcp.place_of, Counting.counted, Counting.nothing_skipped}
use Rattle.dist_capture.specs.{Formats.awaited_length, Formats.unit_of, Formats.◌>>=◌}
use Rattle.dist_capture.specs.declared.{fault.CaptureFault.CaptureFault, format.Format.Format, format.Format.TheVariants.Unknown}
use Rattle.dist_capture.specs.declared.{format.Format.TheVariants.Pcap, format.Format.TheVariants.Pcapng, format.Interface.Interface}
use Rattle.dist_capture.specs.declared.{segment.Segment.Segment, skipped.Skipped.Skipped, skipped.SkippedCounts.SkippedCounts, unit.Unit.Unit}
use Rattle.dist_capture.specs.declared.fault.CaptureFault.TheVariants as fault
use Rattle.dist_capture.specs.declared.unit.Unit.TheVariants as unit

pub record Reading : Type 0 where
  pub format : Format
  -- of the section
  pub interfaces : List Interface
  -- the bytes that came and were not read
  pub pending : List ℕ
  pub counts : SkippedCounts

-- the reader when more bytes have come
abbrev pub with_bytes : Reading → List ℕ → Reading
with_bytes r bytes = record { format = r.format; interfaces = r.interfaces; pending = r.pending ++ bytes; counts = r.counts }

-- nothing was read, or bytes came that are no whole unit
abbrev pub is_unknown : Format → Bool
is_unknown Unknown = true
is_unknown other = false

abbrev pub is_cut_off : Reading → Bool
is_cut_off r = is_unknown r.format || nat_lt 0 (length r.pending)

-- how many bytes the next unit has, where it is whole
abbrev pub whole : Reading → Result (Option ℕ) CaptureFault
whole r = awaited_length r.format r.pending >>= (λ len. Ok (if nat_lt (length r.pending) len then None else Some len))

-- the next unit has so many bytes, and says this
pub record IsNext (r : Reading) (len : ℕ) (says : Unit) : Type 0 where
  pub is_whole : whole r ≡ Ok (Some len)
  pub is_said : unit_of r.format r.interfaces (take len r.pending) ≡ Ok says

-- THE SEGMENT OF A UNIT, with its time
abbrev pub timed : ℕ → Result Said Skipped → Option (ℕ × Said)
timed time (Ok said) = Some (time, said)
timed time (Err skipped) = None

abbrev pub heard : Unit → List ℕ → Option (ℕ × Said)
heard (unit.Packet time link at len) bytes = timed time (segment_of link (part at len bytes))
heard _ bytes = None

-- what the file goes on with
abbrev pub format_after : Format → Unit → Format
format_after format (unit.File order nano link) = Pcap order nano link
format_after format (unit.Section order) = Pcapng order
format_after format _ = format

abbrev pub interfaces_after : List Interface → Unit → List Interface
interfaces_after interfaces (unit.Section order) = []
interfaces_after interfaces (unit.Described interface) = interfaces ++ interface ∷ []
interfaces_after interfaces _ = interfaces

abbrev pub counts_by : SkippedCounts → Result Said Skipped → SkippedCounts
counts_by counts (Ok said) = counts
counts_by counts (Err skipped) = counted counts skipped

abbrev pub counts_after : SkippedCounts → Unit → List ℕ → SkippedCounts
counts_after counts (unit.Packet time link at len) bytes = counts_by counts (segment_of link (part at len bytes))
counts_after counts _ bytes = counts

-- the reader once the unit was read
abbrev pub after : Reading → ℕ → Unit → Reading
after r len says = record {
  format = format_after r.format says;
  interfaces = interfaces_after r.interfaces says;
  pending = drop len r.pending;
  counts = counts_after r.counts says (take len r.pending);
}

-- the reader once it noted what is no packet, and once it read a packet
abbrev pub noted : Reading → Unit → Reading
noted r says = record { format = format_after r.format says; interfaces = interfaces_after r.interfaces says; pending = r.pending; counts = r.counts }

abbrev pub with_packet : Reading → ℕ → Result Said Skipped → Reading
with_packet r len packet = record { format = r.format; interfaces = r.interfaces; pending = drop len r.pending; counts = counts_by r.counts packet }

-- a segment as the code has it
abbrev pub view_of : Segment → ℕ × Said
view_of s = (
  s.time,
  record {
    from = place_of s.from;
    to = place_of s.to;
    sequence = s.sequence;
    acknowledges = s.acknowledges;
    window = s.window;
    is_fin = s.is_fin;
    is_syn = s.is_syn;
    is_reset = s.is_reset;
    is_ack = s.is_ack;
    payload = s.payload.items;
    missing = s.missing;
  },
)

-- what a unit gives is returned, and the unit is read
pub record Gives (r : Reading) (segment : Option (ℕ × Said)) (later : Reading) : Type 0 where
  pub len : ℕ
  pub says : Unit
  pub is_next : IsNext r len says
  pub is_heard : segment ≡ heard says (take len r.pending)
  pub is_later : later ≡ after r len says

-- THE SEGMENTS OF A FILE: its units are read one after another, and these are the segments that they give
pub data Reads : Reading → List (ℕ × Said) → Reading → Type 0 where
  Done : (r : Reading) → Reads r [] r
  Next : (r mid later : Reading) (segment : Option (ℕ × Said)) (others all : List (ℕ × Said))
      → Gives r segment mid → Reads mid others later → all ≡ option_to_list segment ++ others → Reads r all later

-- THE NEXT SEGMENT is that of the first whole unit that gives one; without one more bytes are wanted
abbrev pub EndsAt : Reading → Option (ℕ × Said) → Reading → Type 0
EndsAt mid None later = (whole mid ≡ Ok None) × (later ≡ mid)
EndsAt mid (Some segment) later = Gives mid (Some segment) later

-- why a unit is not read
abbrev pub FailsAt : Reading → CaptureFault → Type 0
FailsAt r e = (e ≡ fault.NoMemory)
    ⊎ ((whole r ≡ Err e) ⊎ ((len : ℕ) × (whole r ≡ Ok (Some len)) × (unit_of r.format r.interfaces (take len r.pending) ≡ Err e)))

abbrev pub unread : Reading
unread = record {
  format = Unknown;
  interfaces = [];
  pending = [];
  counts = nothing_skipped;
}

-- no unit can be read any more
abbrev pub IsRead : Reading → Type 0
IsRead r = (segment : Option (ℕ × Said)) (later : Reading) → Gives r segment later → ⊥

-- a reader to which bytes came in some pieces, and the segments that it returned meanwhile
pub data Was : Reading → List ℕ → List (ℕ × Said) → Type 0 where
  Opened : Was unread [] []
  Fed : (r : Reading) (stream : List ℕ) (segments : List (ℕ × Said)) (piece : List ℕ)
      → Was r stream segments → Was (with_bytes r piece) (stream ++ piece) segments
  Asked : (r later : Reading) (stream : List ℕ) (segments others : List (ℕ × Said))
      → Was r stream segments → Reads r others later → Was later stream (segments ++ others)

-- whether a unit is a packet, and how many packets a run over a capture has read
abbrev pub packet_count : Unit → ℕ
packet_count (unit.Packet time link at len) = 1
packet_count _ = 0

abbrev pub packets : (r later : Reading) (segments : List (ℕ × Said)) → Reads r segments later → ℕ
packets r later segments (Done s) = 0
packets r later segments (Next s mid end segment others all gives rest is) = packet_count gives.says + packets mid end others rest
