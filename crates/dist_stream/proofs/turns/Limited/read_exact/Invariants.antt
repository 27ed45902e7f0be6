-- What was read stands at the front of the buffer.
use Rattle.std.proofs.Common.{◌≡◌, ◌≤◌, None, length, take}
use Rattle.dist_stream.specs.Turns.{Hears}
use Rattle.dist_stream.proofs.turns.Limited.read_exact.Given as goal

abbrev pub invariant-loop-at : goal.invariant-loop-at
invariant-loop-at g l = record {
  len : length l.room ≡ length l.initial.room;
  at : l.at ≤ length l.room;
  hears : Hears (g.S.Stream.meaning l.initial.self.stream.now) (g.S.Stream.meaning l.self.stream.now) l.initial.self.left l.self.left None (take l.at l.room);
  loan : l.self.stream.ghost_name ≡ l.initial.self.stream.ghost_name;
}

abbrev pub decreases-loop-at : goal.decreases-loop-at
decreases-loop-at g l = l.self.left
