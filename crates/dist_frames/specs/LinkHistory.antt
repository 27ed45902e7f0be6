-- The calls of a reader of packets so far, and what it returned.
use Rattle.std.specs.Prelude.{ℕ, List, [], ◌∷◌, ◌++◌, Option, Some, Result, Ok}
pub use Rattle.dist_names.specs.Bytes.{IsBytes}
use Rattle.dist_frames.specs.declared.packet_error.PacketError.{PacketError}
use Rattle.dist_frames.specs.LinkReading.{Reading, reading, with_piece, next_packet, without_next}

-- a call; Take moves the next packet out, where there is one
pub data Call : Type 0 where
  Feed : List ℕ → Call
  Take : Call

-- a reader, what came to it and what it returned until now
pub record Seen : Type 0 where
  pub reader : Reading
  -- all bytes that came
  pub stream : List ℕ
  -- the packets that were moved out
  pub moved : List (List ℕ)

-- a reader that begins with these bytes
abbrev pub opening : ℕ → List ℕ → Seen
opening most rest = record { reader = reading most rest; stream = rest; moved = [] }

-- the packet that was returned, where there was one
abbrev pub packets_in : Result (Option (List ℕ)) PacketError → List (List ℕ)
packets_in (Ok (Some packet)) = packet ∷ []
packets_in _ = []

-- the same after one more call
abbrev pub after_call : Seen → Call → Seen
after_call s (Feed piece) = record s { reader = with_piece s.reader piece; stream = s.stream ++ piece }
after_call s Take = record s { reader = without_next s.reader; moved = s.moved ++ packets_in (next_packet s.reader) }

-- the same after these calls in turn
abbrev pub after_all : Seen → List Call → Seen
after_all s [] = s
after_all s (call ∷ calls) = after_all (after_call s call) calls

-- the pieces are bytes
abbrev pub FeedBytes : List Call → Type 0
FeedBytes [] = Unit {0}
FeedBytes (Feed piece ∷ calls) = IsBytes piece × FeedBytes calls
FeedBytes (Take ∷ calls) = FeedBytes calls
