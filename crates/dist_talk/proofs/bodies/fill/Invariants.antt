-- What was read stands at the front of the buffer.
use Rattle.dist_epmd_calls.proofs.Words.{Hears, ◌≡◌, ◌≤◌, length, take, None}
use Rattle.dist_talk.proofs.bodies.fill.Given as goal

abbrev pub invariant-loop-at : goal.invariant-loop-at
invariant-loop-at g l = record {
  len : length l.room ≡ length l.initial.room;
  at : l.at ≤ length l.room;
  hears : Hears (g.S.Stream.meaning l.initial.limited.stream.now) (g.S.Stream.meaning l.limited.stream.now) l.initial.limited.left l.limited.left None (take l.at l.room);
  loan : l.limited.stream.ghost_name ≡ l.initial.limited.stream.ghost_name;
}

abbrev pub decreases-loop-at : goal.decreases-loop-at
decreases-loop-at g l = l.limited.left
