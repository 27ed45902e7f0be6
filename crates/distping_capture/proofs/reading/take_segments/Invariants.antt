-- The segments that were returned were taken.
use Rattle.distping_capture.specs.Captures.{TakesIn}
use Rattle.distping_capture.proofs.reading.take_segments.Given as goal

abbrev pub invariant-segments : goal.invariant-segments
invariant-segments g l = TakesIn l.initial.capture l.initial.connections l.capture l.connections
