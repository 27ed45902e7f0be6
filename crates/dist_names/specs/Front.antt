-- The first bytes of a text as four numbers, which order most names.
use Rattle.std.specs.{Prelude.ℕ, Prelude.List, Prelude.drop, Int.w64, Int.from_be_bytes}

-- the first eight bytes as a number of 64 bits: the first byte is the highest, and zeros stand behind a shorter text
abbrev pub front_number : List ℕ → ℕ
front_number text = from_be_bytes w64 text

-- the first 32 bytes, as four such numbers
abbrev pub front_numbers : List ℕ → ℕ × ℕ × ℕ × ℕ
front_numbers text = (front_number text, front_number (drop 8 text), front_number (drop 16 text), front_number (drop 24 text))
