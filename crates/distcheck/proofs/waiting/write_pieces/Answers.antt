-- One piece more was written, or a front of it.
use Rattle.std.proofs.Common.{rules}
use Rattle.distcheck.proofs.Hearing.{wrote_part, wrote_some}
use Rattle.distcheck.proofs.waiting.write_pieces.Goals as goal

pub returns-then-not-write : goal.returns-then-not-write
returns-then-not-write g c = wrote_some c.args.bytes.now c.loop-at.at c.min-end.result c.write-in-loop-at.result (search rules) (search rules) c.loop-at.invariant c.write-in-loop-at.ensures

pub loop-at-preserved : goal.loop-at-preserved
loop-at-preserved g c = wrote_part c.args.bytes.now c.loop-at.at c.min-end.result c.write-in-loop-at.result (search rules) (search rules) c.loop-at.invariant c.write-in-loop-at.ensures (search rules)
