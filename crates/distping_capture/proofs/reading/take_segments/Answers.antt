use Rattle.distping_capture.proofs.Taking.{rests, takes_then, took}
use Rattle.distping_capture.proofs.reading.take_segments.Goals as goal

pub returns-in-Ok-None-clause-taken : goal.returns-in-Ok-None-clause-taken
returns-in-Ok-None-clause-taken g c =
    let p = rw c.in-Ok-None.field-0-is at c.in-Ok-None.ensures.ok in
    takes_then c.args.capture.now c.segments.capture c.next.new.self c.args.connections.now c.segments.connections c.segments.connections c.segments.invariant
    (rests c.segments.capture p.0 c.next.new.self c.segments.connections p.1 p.2)

pub segments-preserved : goal.segments-preserved
segments-preserved g c =
    let p = rw c.in-Ok-Some.field-0-is at c.in-Ok-Some.ensures.ok in
    takes_then c.args.capture.now c.segments.capture c.next.new.self c.args.connections.now c.segments.connections c.take.new.self c.segments.invariant
    (took c.segments.capture p.0 c.next.new.self c.segments.connections c.take.new.self c.in-Ok-Some.segment p.1 p.2 c.in_ok-take-in-Ok-Some.ensures)
