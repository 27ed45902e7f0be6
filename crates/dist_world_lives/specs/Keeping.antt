-- A number that is kept beside whether it was written.
use Rattle.std.specs.Prelude.{ℕ, Bool, true, false, Option, Some, None}

-- the number, where it was written
abbrev pub number_if : Bool → ℕ → Option ℕ
number_if true n = Some n
number_if false n = None
