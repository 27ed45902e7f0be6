use Rattle.std.proofs.Common.{sym, ◌∙◌}
use Rattle.dist_capture.specs.Reading.{Done}
use Rattle.dist_capture.proofs.Passing.{passes_on}
use Rattle.dist_capture.proofs.capture.Capture.next.Goals as goal

pub loop-len-init : goal.loop-len-init
loop-len-init c = Done c.args.self.now

pub loop-len-preserved : goal.loop-len-preserved
loop-len-preserved c = passes_on c.args.self.now c.loop-len.self c.take_unit.new.self c.in_ok-segment.segment c.loop-len.invariant c.in_ok-segment.ensures.ok (sym c.is_some.ensures ∙ c.if-is_some.false)
