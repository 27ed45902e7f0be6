use Rattle.std.proofs.Common.{arith}
use Rattle.dist_capture.proofs.Laying.{all_laid}
use Rattle.dist_capture.proofs.places.fill_in.Goals as goal

pub returns : goal.returns
returns c = all_laid c.args.place c.args.bytes.now c.args.known.now.items c.loop-i.known.items c.loop-i.i (omega arith) c.loop-i.invariant.len (omega arith) c.loop-i.invariant.places
