-- The segments of one text, which come in any order, and again.
use Rattle.std.specs.Prelude.{◌≡◌, ℕ, ◌+◌, ◌%◌, ◌^◌, ◌<◌, ◌≤◌, Bool, true, false, ◌&&◌, ◌||◌, List, [], ◌∷◌, ◌++◌, length, take, nat_lt, nat_le}
use Rattle.dist_capture.specs.{Parts.part, Streams.Gathering, Streams.taken, Streams.consumed, Streams.awaiting}

-- a piece of the text comes: where it begins, and how many bytes it has; or bytes that are ready are taken away
pub data Event : Type 0 where
  Arrives : ℕ → ℕ → Event
  Consumes : ℕ → Event

-- a stream, and the bytes that were taken away
pub record Seen : Type 0 where
  pub stream : Gathering
  pub gone : List ℕ

abbrev pub opening : ℕ → ℕ → Seen
opening first most = record { stream = awaiting first most; gone = [] }

-- all bytes that were ready
abbrev pub delivered : Seen → List ℕ
delivered s = s.gone ++ s.stream.ready

-- after an event; `first` is the sequence number of the text's first byte
abbrev pub after : ℕ → List ℕ → Seen → Event → Seen
after first text s (Arrives place count) = record { stream = taken s.stream ((first + place) % 2 ^ 32) (part place count text); gone = s.gone }
after first text s (Consumes count) = record { stream = consumed s.stream count; gone = s.gone ++ take count s.stream.ready }

abbrev pub after_all : ℕ → List ℕ → Seen → List Event → Seen
after_all first text s [] = s
after_all first text s (e ∷ es) = after_all first text (after first text s e) es

-- a piece of the text that comes within 2^31 of the byte that is awaited, and, if it has to wait, not too far behind it
pub record IsPiece (text : List ℕ) (s : Seen) (place count : ℕ) : Type 0 where
  pub inside : place + count ≤ length text
  pub ahead : place < length (delivered s) + 2 ^ 31
  pub behind : length (delivered s) ≤ place + 2 ^ 31
  pub near : length (delivered s) < place → place + count ≤ length (delivered s) + s.stream.most

abbrev pub ArePieces : ℕ → List ℕ → Seen → List Event → Type 0
ArePieces first text s [] = Unit {0}
ArePieces first text s (Arrives place count ∷ es) = IsPiece text s place count × ArePieces first text (after first text s (Arrives place count)) es
ArePieces first text s (Consumes count ∷ es) = ArePieces first text (after first text s (Consumes count)) es

-- whether a byte came, by its place in the text
abbrev pub covers : ℕ → ℕ → ℕ → Bool
covers place count i = nat_le place i && nat_lt i (place + count)

abbrev pub has_come : List Event → ℕ → Bool
has_come [] i = false
has_come (Arrives place count ∷ es) i = covers place count i || has_come es i
has_come (Consumes count ∷ es) i = has_come es i

-- the first byte that did not come
pub record IsFirstGap (events : List Event) (gap : ℕ) : Type 0 where
  pub before : (i : ℕ) → i < gap → has_come events i ≡ true
  pub here : has_come events gap ≡ false
