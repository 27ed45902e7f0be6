-- What was written so far is a front of the bytes.
use Rattle.std.proofs.Common.{◌-◌, length}
use Rattle.distcheck.specs.Seeing.{Wrote}
use Rattle.distcheck.proofs.waiting.write_pieces.Given as goal

abbrev pub invariant-loop-at : goal.invariant-loop-at
invariant-loop-at g l = Wrote (g.S.Stream.meaning l.initial.link.stream) (g.S.Stream.meaning l.link.stream) l.bytes l.at

abbrev pub decreases-loop-at : goal.decreases-loop-at
decreases-loop-at g l = length l.bytes - l.at
