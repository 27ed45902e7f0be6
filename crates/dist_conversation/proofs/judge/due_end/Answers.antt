use Rattle.std.proofs.Common.{rules}
use Rattle.dist_conversation.specs.Verdicts.{of_both}
use Rattle.dist_conversation.proofs.Ending.{ends_upon}
use Rattle.dist_conversation.proofs.judge.due_end.Goals as goal

pub returns : goal.returns
returns c =
    ends_upon _ c.in-Due.due c.side-side.result c.args.seen.now c.args.handshake.now (of_both c.args.left.0.now c.args.left.1.now) c.left_of.result.now c.args.now c.ending_at.result
    (search rules) c.side-side.ensures c.left_of.ensures c.ending_at.ensures
