-- A field at the front of bytes.
use Rattle.std.specs.Prelude.{ℕ, List, length, take, drop, Option, Some, None, nat_lt, if◌then◌else◌}
use Rattle.std.specs.Int.{Width, byte_len, from_be_bytes}

-- What is read is a value and the bytes after it. None where the bytes end inside it.
abbrev pub Taken : Type 0 → Type 0
Taken A = Option (A × List ℕ)

-- a number of this width, the greater bytes first
abbrev pub number_at : Width → List ℕ → Taken ℕ
number_at w bytes = if nat_lt (length bytes) (byte_len w) then None else Some (from_be_bytes w (take (byte_len w) bytes), drop (byte_len w) bytes)

-- this many bytes
abbrev pub bytes_at : ℕ → List ℕ → Taken (List ℕ)
bytes_at n bytes = if nat_lt (length bytes) n then None else Some (take n bytes, drop n bytes)
