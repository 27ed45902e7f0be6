use Rattle.std.proofs.Common.{◌≡◌, ◌-◌, ◌+◌, ◌*◌, ◌≤◌}
use Rattle.dist_capture.specs.Network.{upper}
use Rattle.dist_capture.proofs.network.upper.Given as goal

-- what's left of the walk leads where the whole does
abbrev pub invariant-loop : goal.invariant-loop
invariant-loop l = record {
  rest : upper (4 - l.counter) l.bytes l.header l.at ≡ upper 4 l.bytes l.first 40;
  place : l.at ≤ 40 + 2048 * l.counter;
}
