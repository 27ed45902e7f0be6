-- The place is one of those that are there, or behind them.
use Rattle.std.proofs.Common.{◌≤◌, length}
use Rattle.distping_capture.proofs.connections.CapturedConnections.place_of.Given as goal

abbrev pub invariant-loop-place : goal.invariant-loop-place
invariant-loop-place g l = l.place ≤ length l.self.connections.items

abbrev pub decreases-loop-place : goal.decreases-loop-place
decreases-loop-place g l = l.place
