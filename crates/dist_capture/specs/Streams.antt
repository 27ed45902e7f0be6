-- The bytes of one direction of a connection, put in order by their sequence numbers (RFC 9293, 3.4): numbers modulo 2^32, each of which
-- stands for the byte within 2^31 of the one that is awaited.
use Rattle.std.specs.Prelude.{ℕ, ◌+◌, ◌-◌, ◌%◌, ◌^◌, Bool, ◌&&◌, ◌||◌, not, max, List, [], ◌∷◌, ◌++◌, length, drop, map, Option, Some, None, nat_lt, nat_le}
use Rattle.std.specs.Prelude.{is_some, slice_get, slice_index_or, ◌==◌, if◌then◌else◌}
use Rattle.std.specs.List.{range_with_len}

pub record Gathering : Type 0 where
  -- the sequence number of the byte that is awaited (RCV.NXT of RFC 9293, 3.3.1)
  pub next : ℕ
  -- the bytes in front of it, in order, that were not taken away
  pub ready : List ℕ
  -- what is known of the bytes from it on
  pub waiting : List (Option ℕ)
  -- how far a byte may be behind a gap
  pub most : ℕ

-- what is known of a byte
abbrev pub known_at : List (Option ℕ) → ℕ → Option ℕ
known_at known i = slice_index_or known i None

-- the byte that a segment has at a place
abbrev pub byte_at : ℕ → List ℕ → ℕ → Option ℕ
byte_at place bytes i = if nat_le place i then slice_get bytes (i - place) else None

-- of two copies of a byte the first counts
abbrev pub first_of : Option ℕ → Option ℕ → Option ℕ
first_of (Some b) later = Some b
first_of None later = later

-- what is known once a segment came
abbrev pub laid : ℕ → List ℕ → List (Option ℕ) → List (Option ℕ)
laid place bytes known = map (λ i. first_of (known_at known i) (byte_at place bytes i)) (range_with_len 0 (max (length known) (place + length bytes)))

-- the bytes up to the first that is not known
abbrev pub leading : List (Option ℕ) → List ℕ
leading [] = []
leading (None ∷ known) = []
leading (Some b ∷ known) = b ∷ leading known

-- the last place is of a byte that is known, if there is one
abbrev pub ends_known : List (Option ℕ) → Bool
ends_known known = length known == 0 || is_some (known_at known (length known - 1))

-- how far a sequence number is past another
abbrev pub past : ℕ → ℕ → ℕ
past sequence other = (sequence + (2 ^ 32 - other)) % 2 ^ 32

-- the new bytes of a segment, and how far behind the awaited byte they begin
abbrev pub new_part : ℕ → ℕ → List ℕ → ℕ × List ℕ
new_part next sequence bytes = if nat_lt (past sequence next) (2 ^ 31) then (past sequence next, bytes) else (0, drop (past next sequence) bytes)

-- they are not too far behind a gap
abbrev pub is_near : ℕ → ℕ × List ℕ → Bool
is_near most new = not (nat_lt 0 new.0 && nat_lt most (new.0 + length new.1))

-- the bytes that are in order now are ready
abbrev pub settled : Gathering → List (Option ℕ) → Gathering
settled s known = record {
  next = (s.next + length (leading known)) % 2 ^ 32;
  ready = s.ready ++ leading known;
  waiting = drop (length (leading known)) known;
  most = s.most;
}

abbrev pub with_new : Gathering → ℕ × List ℕ → Gathering
with_new s new = if length new.1 == 0 then s else if is_near s.most new then settled s (laid new.0 new.1 s.waiting) else s

-- THE STREAM WHEN A SEGMENT HAS COME
abbrev pub taken : Gathering → ℕ → List ℕ → Gathering
taken s sequence bytes = with_new s (new_part s.next sequence bytes)

-- once the first bytes that are ready were taken away
abbrev pub consumed : Gathering → ℕ → Gathering
consumed s count = record { next = s.next; ready = drop count s.ready; waiting = s.waiting; most = s.most }

-- a stream to which nothing came
abbrev pub awaiting : ℕ → ℕ → Gathering
awaiting first most = record { next = first; ready = []; waiting = []; most = most }
