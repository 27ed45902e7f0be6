use Rattle.std.proofs.Common.{◌≡◌, ◌-◌, ◌^◌}
use Rattle.dist_capture.proofs.unit.tick_of.Given as goal

abbrev pub invariant-loop : goal.invariant-loop
invariant-loop l = l.tick ≡ 10 ^ (l.counter - l.digits)
