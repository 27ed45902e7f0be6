-- One talk more in a lane.
use Rattle.std.proofs.Common.{◌%◌, rules}
use Rattle.distcheck.proofs.Lanes.{in_a_lane}
use Rattle.distcheck.proofs.queue.push_beside.Goals as goal

pub returns-in_ok-push-in-Some : goal.returns-in_ok-push-in-Some
returns-in_ok-push-in-Some c =
    in_a_lane c.args.lanes.now.items (c.args.queued.place % 8) c.args.queued c.push.new.self c.in-Some.lane.now
    (search rules) (search rules) c.in_ok-push-in-Some.ensures.items
