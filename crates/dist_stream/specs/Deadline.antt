-- How long one call may wait before a deadline.
use Rattle.std.specs.Prelude.{ℕ, ◌-◌, min, nat_le, if◌then◌else◌}

-- How long a call may wait where this is left, in nanoseconds: at most a second. Where more than two tenths of a second are left,
-- the last tenth is kept for a further call, since a system rounds long waits up by more than short ones.
abbrev pub wait_of : ℕ → ℕ
wait_of left = if nat_le left 200_000_000 then left else min (left - 100_000_000) 1_000_000_000
