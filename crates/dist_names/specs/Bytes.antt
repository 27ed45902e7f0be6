-- Rows of bytes, which of them are printable, and numbers in them.
use Rattle.std.specs.{Prelude.ℕ, Prelude.◌<◌, Prelude.Bool, Prelude.◌&&◌, Prelude.nat_le, Prelude.List, Prelude.get_or, Int.Width, Int.to_be_bytes}

-- each element is a byte
abbrev pub IsBytes : List ℕ → Type 0
IsBytes bytes = (i : ℕ) → get_or bytes i 0 < 256

-- a number in the bytes of a field, the greater ones first: big-endian, as all of the protocol's numbers are
abbrev pub number : Width → ℕ → List ℕ
number w value = to_be_bytes w value

-- a printable ASCII character, the space among them
abbrev pub is_printable : ℕ → Bool
is_printable byte = nat_le 0x20 byte && nat_le byte 0x7E

-- a printable ASCII character, and no space
abbrev pub is_visible : ℕ → Bool
is_visible byte = nat_le 0x21 byte && nat_le byte 0x7E
