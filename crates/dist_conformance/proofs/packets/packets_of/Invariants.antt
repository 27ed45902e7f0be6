use Rattle.std.proofs.Common.{◌≡◌, ◌≤◌, drop}
use Rattle.dist_conformance.specs.Packets.{packets_behind, packets_of}
use Rattle.dist_conformance.proofs.packets.packets_of.Given as goal

-- what is left decides; no more packets were empty than bytes came
abbrev pub invariant-loop-byte : goal.invariant-loop-byte
invariant-loop-byte l = record {
  so : packets_of l.came ≡ packets_behind l.state (drop l.byte-index l.came);
  few : l.state.ticks ≤ l.byte-index;
}
