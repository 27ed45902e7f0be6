use Rattle.std.proofs.Common.{[], length}
use Rattle.dist_capture.specs.Reading.{Reads}
use Rattle.dist_capture.proofs.capture.Capture.next.Given as goal

abbrev pub invariant-loop-len : goal.invariant-loop-len
invariant-loop-len l = Reads l.fn.self [] l.self

abbrev pub decreases-loop-len : goal.decreases-loop-len
decreases-loop-len l = length l.self.pending
