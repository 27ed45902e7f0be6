-- A talk more.
use Rattle.std.proofs.lemmas.Result.{on_ok_weaker}
use Rattle.distcheck.proofs.Lanes.{alone_more, beside_more, first_more}
use Rattle.distcheck.proofs.queue.TalkQueue.push.Goals as goal

pub returns-then-queued : goal.returns-then-queued
returns-then-queued c = rw c.in_ok-push.ensures.items (first_more _ _ _ c.args.queued)

pub returns-then-queued-2 : goal.returns-then-queued-2
returns-then-queued-2 c = rw c.in_ok-push-2.ensures.items (alone_more _ _ c.args.queued)

pub returns : goal.returns
returns c = on_ok_weaker c.push_beside.result (beside_more _ _ _ _ c.args.queued) c.push_beside.ensures
