use Rattle.std.proofs.Common.{sym, ◌∙◌, arith}
use Rattle.dist_capture.specs.Streams.{laid}
use Rattle.dist_capture.proofs.Closing.{known_first, front_more, front_done, front_all}
use Rattle.dist_capture.proofs.stream.leading.Goals as goal

pub returns-in-None : goal.returns-in-None
returns-in-None c =
    front_done c.loop-i.front.items (laid 0 c.args.bytes.now c.args.known.now) c.loop-i.i c.loop-i.invariant
    (known_first c.args.bytes.now c.args.known.now c.loop-i.i ∙ sym c.known_with.ensures ∙ c.in-None.is)

pub loop-i-preserved : goal.loop-i-preserved
loop-i-preserved c =
    rw c.in_ok-push-in-Some.ensures.items
    (front_more c.loop-i.front.items (laid 0 c.args.bytes.now c.args.known.now) c.loop-i.i c.in-Some.byte c.loop-i.invariant
    (known_first c.args.bytes.now c.args.known.now c.loop-i.i ∙ sym c.known_with.ensures ∙ c.in-Some.is))

pub returns : goal.returns
returns c = front_all c.loop-i.front.items c.args.bytes.now c.args.known.now c.loop-i.i (omega arith) c.loop-i.invariant
