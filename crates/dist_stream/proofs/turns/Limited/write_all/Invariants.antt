-- What was written is the first part of the bytes.
use Rattle.std.proofs.Common.{◌≡◌, ◌≤◌, None, length, take}
use Rattle.dist_stream.specs.Turns.{Says}
use Rattle.dist_stream.proofs.turns.Limited.write_all.Given as goal

abbrev pub invariant-loop-at : goal.invariant-loop-at
invariant-loop-at g l = record {
  at : l.at ≤ length l.bytes;
  says : Says (g.S.Stream.meaning l.initial.self.stream.now) (g.S.Stream.meaning l.self.stream.now) l.initial.self.left l.self.left None (take l.at l.bytes);
  loan : l.self.stream.ghost_name ≡ l.initial.self.stream.ghost_name;
}

abbrev pub decreases-loop-at : goal.decreases-loop-at
decreases-loop-at g l = l.self.left
