-- The talks so far are queued.
use Rattle.std.proofs.Common.{take}
use Rattle.std.specs.Prelude.{IsPermutation}
use Rattle.distcheck.specs.Lanes.{queued_talks}
use Rattle.distcheck.proofs.queue.queue_of.Given as goal

abbrev pub invariant-loop-queued : goal.invariant-loop-queued
invariant-loop-queued l = IsPermutation (take l.queued-index l.talks) (queued_talks l.queue)
