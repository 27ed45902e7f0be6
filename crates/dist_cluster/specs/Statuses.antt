-- The exit status for many nodes.
use Rattle.std.specs.Prelude.{ℕ, ◌==◌, if◌then◌else◌}

-- the first of two statuses, or the second where the first is 0
abbrev pub first_of : ℕ → ℕ → ℕ
first_of first second = if first == 0 then second else first
