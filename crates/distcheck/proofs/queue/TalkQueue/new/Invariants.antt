-- No lane has a talk.
use Rattle.std.proofs.Common.{◌≡◌, []}
use Rattle.distcheck.specs.Lanes.{all_in, lanes_of}
use Rattle.distcheck.proofs.queue.TalkQueue.new.Given as goal

abbrev pub invariant-loop : goal.invariant-loop
invariant-loop l = all_in (lanes_of l.lanes.items) ≡ []
