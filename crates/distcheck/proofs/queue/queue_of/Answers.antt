-- One talk more is queued.
use Rattle.std.proofs.Common.{rules}
use Rattle.std.proofs.lemmas.List.{take_more}
use Rattle.std.proofs.lemmas.List.Sorted.{IsPermutation-push_more}
use Rattle.distcheck.proofs.queue.queue_of.Goals as goal

pub loop-queued-preserved : goal.loop-queued-preserved
loop-queued-preserved c = rw (take_more c.args.talks.now c.loop-queued.queued-index c.queued-item.result (search rules), ← c.queued-item.is)
    (IsPermutation-push_more _ _ _ c.queued-item.result c.loop-queued.invariant c.in_ok-push.ensures)
