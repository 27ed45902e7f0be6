-- It is one of the talks, and none so far has a worse verdict.
use Rattle.std.proofs.Common.{take}
use Rattle.std.specs.Prelude.{Contains}
use Rattle.distcheck.specs.Rows.{NoneWorse}
use Rattle.distcheck.proofs.results.row_of.Given as goal

abbrev pub invariant-loop-talk : goal.invariant-loop-talk
invariant-loop-talk l = record {
  one_of_them : Contains l.talks l.shown;
  none_worse : NoneWorse (take l.talk-index l.talks) l.shown;
}
