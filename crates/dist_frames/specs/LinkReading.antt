-- What a reader of packets has to return (ERTS User's Guide, Distribution Protocol, Protocol between Connected Nodes). It
-- speaks of the stream, so that it says nothing of how the bytes are kept.
use Rattle.std.specs.Prelude.{◌≡◌, ℕ, ◌+◌, ◌≤◌, Bool, ◌&&◌, nat_le, nat_lt, List, [], ◌∷◌, ◌++◌, length, take, drop}
use Rattle.std.specs.Prelude.{Option, Some, None, Result, Ok, Err, if◌then◌else◌}
use Rattle.std.specs.Int.{w32}
use Rattle.dist_frames.specs.{Stream.head, Stream.first_body, Stream.after_first, Stream.split_bodies, declared.packet_error.PacketError.PacketError}
use Rattle.dist_frames.specs.declared.packet_error.PacketError.TheVariants as error

-- a reader of packets
pub record Reading : Type 0 where
  -- how many bytes a packet may have
  pub most : ℕ
  -- the bytes that came and were not moved out
  pub pending : List ℕ

-- the reader that takes packets of at most this many bytes, and holds these bytes
abbrev pub reading : ℕ → List ℕ → Reading
reading most pending = record { most = most; pending = pending }

-- the reader when more bytes have come
abbrev pub with_piece : Reading → List ℕ → Reading
with_piece r piece = reading r.most (r.pending ++ piece)

-- the length of the next packet has come, and is more than a packet may have
abbrev pub is_too_long : Reading → Bool
is_too_long r = nat_le 4 (length r.pending) && nat_lt r.most (head w32 r.pending)

-- WHAT COMES NEXT: a packet that is too long is refused as soon as its length has come; any other comes once it is whole
abbrev pub next_packet : Reading → Result (Option (List ℕ)) PacketError
next_packet r = if is_too_long r then Err (error.TooLong (head w32 r.pending)) else Ok (first_body w32 r.pending)

-- the reader once that packet was moved out; without a next packet it is unchanged
abbrev pub without_next : Reading → Reading
without_next r = if is_too_long r then r else reading r.most (after_first w32 r.pending)

-- why a packet is not moved out: it is too long, or it is whole and memory runs out
abbrev pub MayFail : Reading → PacketError → Type 0
MayFail r (error.TooLong len) = next_packet r ≡ Err (error.TooLong len)
MayFail r error.NoMemory = (packet : List ℕ) × (next_packet r ≡ Ok (Some packet))

-- the next packet has this many bytes, where it is whole
abbrev pub HasNext : Reading → Option ℕ → Type 0
HasNext r None = (next_packet r ≡ Ok None) × (without_next r ≡ r)
HasNext r (Some len) =
    (4 + len ≤ length r.pending)
    × (next_packet r ≡ Ok (Some (take len (drop 4 r.pending))))
    × (without_next r ≡ reading r.most (drop (4 + len) r.pending))

-- ---- all packets

-- packets up to the first that is too long
abbrev pub up_to : ℕ → List (List ℕ) → List (List ℕ)
up_to most [] = []
up_to most (packet ∷ packets) = if nat_le (length packet) most then packet ∷ up_to most packets else []

-- THE PACKETS of a stream of bytes, up to the first that is too long
abbrev pub packets_within : ℕ → List ℕ → List (List ℕ)
packets_within most stream = up_to most (split_bodies w32 stream)

-- the packets still to come of the bytes that came
abbrev pub to_come : Reading → List (List ℕ)
to_come r = packets_within r.most r.pending
