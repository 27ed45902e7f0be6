-- How long a wait of a run takes.
use Rattle.std.specs.Prelude.{ℕ, min, max}

-- HOW MANY TURNS A WAIT FOR BYTES TAKES where it was quiet for so many and so many are left: as many as it was quiet, and one at
-- least, but at most 100 and those that are left
abbrev pub turns_of_wait : ℕ → ℕ → ℕ
turns_of_wait quiet left = min (min (max quiet 1) left) 100
