-- The place is one of those before.
use Rattle.std.proofs.Common.{◌<◌}
use Rattle.distping_capture.proofs.connections.CapturedConnections.oldest.Given as goal

abbrev pub invariant-loop-at : goal.invariant-loop-at
invariant-loop-at g l = l.place < l.at
