-- BYTES AS TEXT THAT IS SAFE TO PRINT. The form is our own choice.
use Rattle.std.specs.Prelude.{ℕ, ◌/◌, ◌%◌, ◌==◌, ◌≤◌, ◌⊎◌, ◌≡◌, if◌then◌else◌, List, [], ◌∷◌, ◌++◌, codes}
use Rattle.std.specs.{List.flat_map, Char.digit_char}
use Rattle.dist_names.specs.Bytes.{is_printable}

-- a byte by its two hexadecimal digits: \x1b
abbrev pub by_digits : ℕ → List ℕ
by_digits b = codes "\\x" ++ digit_char (b / 16) ∷ digit_char (b % 16) ∷ []

-- THE ESCAPE OF A BYTE: a backslash is written twice, other printable bytes stand as they are, the rest by their digits
abbrev pub escape_of : ℕ → List ℕ
escape_of b = if b == 0x5C then codes "\\\\" else if is_printable b then b ∷ [] else by_digits b

-- the same, with a line feed left as it is
abbrev pub escape_in_lines : ℕ → List ℕ
escape_in_lines b = if b == 0x0A then b ∷ [] else escape_of b

-- the same, with a double quote by its digits
abbrev pub escape_in_quotes : ℕ → List ℕ
escape_in_quotes b = if b == 0x22 then by_digits b else escape_of b

-- each byte's escape, one behind the other
abbrev pub escapes_of : List ℕ → List ℕ
escapes_of bytes = flat_map escape_of bytes

-- the same, with the line feeds left as they are
abbrev pub escaped_lines : List ℕ → List ℕ
escaped_lines bytes = flat_map escape_in_lines bytes

-- the escapes between double quotes; no escape has a double quote itself
abbrev pub in_double_quotes : List ℕ → List ℕ
in_double_quotes bytes = codes "\"" ++ flat_map escape_in_quotes bytes ++ codes "\""

-- a byte that no terminal acts upon
abbrev pub IsPrintable : ℕ → Type 0
IsPrintable b = (0x20 ≤ b) × (b ≤ 0x7E)

-- a printable byte, or a line feed
abbrev pub IsPrintableOrLineFeed : ℕ → Type 0
IsPrintableOrLineFeed b = (b ≡ 0x0A) ⊎ IsPrintable b
