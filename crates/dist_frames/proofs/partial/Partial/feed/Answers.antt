use Rattle.std.proofs.Common.{◌++◌, length, rules, eqb-true}
use Rattle.dist_frames.proofs.Owing.{finished, Finished}
use Rattle.dist_frames.proofs.partial.Partial.feed.Goals as goal

over : (c : goal.After-settle) → Finished c.loop-rest.count c.loop-rest.self (c.args.self.now ++ c.args.piece.now)
over c = finished c.loop-rest.count c.loop-rest.self c.loop-rest.rest.now (c.args.self.now ++ c.args.piece.now) (eqb-true (length c.loop-rest.rest.now) 0 (search rules)) c.settle.ensures.none c.settle.ensures.short c.loop-rest.invariant

pub returns-clause-count : goal.returns-clause-count
returns-clause-count c = (over c).count

pub returns-clause-left : goal.returns-clause-left
returns-clause-left c = (over c).left
