-- The lines in which a port mapper lists its names.
--
-- The ERTS User's Guide (EPMD Protocol) gives them as `name NAME at port PORT`, each with a line feed.
use Rattle.std.specs.Prelude.{ℕ, ◌-◌, List, length, take, take_while, reverse, drop, codes, nat_eq, Option, Some, None, option_and_then, if◌then◌else◌}
use Rattle.std.specs.{Char.is_ascii_digit, Cmp.Lexicographic.pointwise}

-- how many digits stand at the end of a line
abbrev pub digits_at_end : List ℕ → ℕ
digits_at_end line = length (take_while is_ascii_digit (reverse line))

-- a line without the digits at its end
abbrev pub before_digits : List ℕ → List ℕ
before_digits line = take (length line - digits_at_end line) line

-- what stands behind these bytes, where a line begins with them
abbrev pub behind_prefix : List ℕ → List ℕ → Option (List ℕ)
behind_prefix front line = if pointwise nat_eq (take (length front) line) front then Some (drop (length front) line) else None

-- what stands before these bytes, where a line ends with them
abbrev pub before_suffix : List ℕ → List ℕ → Option (List ℕ)
before_suffix back line =
    if pointwise nat_eq (drop (length line - length back) line) back then Some (take (length line - length back) line) else None

-- the name in a line: between `name ` and ` at port ` with the digits of a port
abbrev pub name_in_line : List ℕ → Option (List ℕ)
name_in_line line = option_and_then (λ rest. before_suffix (codes " at port ") (before_digits rest)) (behind_prefix (codes "name ") line)
