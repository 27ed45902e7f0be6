-- Each lane so far was played.
use Rattle.std.proofs.Common.{◌≡◌, take}
use Rattle.distcheck.specs.Lanes.{lanes_in, lanes_of}
use Rattle.distcheck.proofs.running.TalkCrew.play_lanes.Given as goal

abbrev pub invariant-loop-lane : goal.invariant-loop-lane
invariant-loop-lane g l = lanes_in l.replies.items ≡ lanes_of (take l.lane-index l.self.queue.lanes.items)
