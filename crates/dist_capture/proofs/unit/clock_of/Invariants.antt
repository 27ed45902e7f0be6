use Rattle.std.proofs.Common.{◌≡◌, ◌-◌}
use Rattle.dist_capture.specs.Formats.{clock_of}
use Rattle.dist_capture.proofs.unit.clock_of.Given as goal

-- what is left of the options says what all do
abbrev pub invariant-loop : goal.invariant-loop
invariant-loop l = clock_of (64 - l.counter) l.order l.rest ≡ clock_of 64 l.order l.options
