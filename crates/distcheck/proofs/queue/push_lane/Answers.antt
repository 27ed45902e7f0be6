-- One lane more.
use Rattle.distcheck.proofs.Lanes.{in_its_own}
use Rattle.distcheck.proofs.queue.push_lane.Goals as goal

pub returns : goal.returns
returns c = rw c.in_ok-push.ensures.items (in_its_own c.args.lanes.now.items c.args.queued c.in_ok-vec.field-0 c.in_ok-vec.ensures.items)
