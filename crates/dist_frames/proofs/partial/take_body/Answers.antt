use Rattle.std.proofs.Common.{arith}
use Rattle.dist_frames.proofs.Owing.{ends, stays}
use Rattle.dist_frames.proofs.partial.take_body.Goals as goal

pub returns-then-owed-piece-clause-count : goal.returns-then-owed-piece-clause-count
returns-then-owed-piece-clause-count c = (ends c.args.owed c.args.piece.now (omega arith) c.if-owed-piece.true).count

pub returns-then-owed-piece-clause-left : goal.returns-then-owed-piece-clause-left
returns-then-owed-piece-clause-left c = (ends c.args.owed c.args.piece.now (omega arith) c.if-owed-piece.true).left

pub returns-else-owed-piece-clause-count : goal.returns-else-owed-piece-clause-count
returns-else-owed-piece-clause-count c = (stays c.args.owed c.args.piece.now (omega arith) c.if-owed-piece.false).count

pub returns-else-owed-piece-clause-left : goal.returns-else-owed-piece-clause-left
returns-else-owed-piece-clause-left c = (stays c.args.owed c.args.piece.now (omega arith) c.if-owed-piece.false).left
