-- So many messages were said in turn.
use Rattle.std.proofs.Common.{◌≡◌, ◌-◌, ◌≤◌}
use Rattle.dist_talk.specs.Speaking.{Going}
use Rattle.dist_talk.proofs.speaking.take_turns.Given as goal

abbrev pub invariant-loop-count : goal.invariant-loop-count
invariant-loop-count g l = record {
  goes : Going l.own l.count l.talk (g.S.Stream.meaning l.initial.limited.stream.now) (g.S.Stream.meaning l.limited.stream.now) l.initial.limited.left l.limited.left;
  most : l.count ≤ 7;
  loan : l.limited.stream.ghost_name ≡ l.initial.limited.stream.ghost_name;
}

abbrev pub decreases-loop-count : goal.decreases-loop-count
decreases-loop-count g l = 7 - l.count
