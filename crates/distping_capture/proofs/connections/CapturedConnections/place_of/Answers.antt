use Rattle.std.proofs.Common.{◌<◌, ◌-◌, length, subst, arith}
use Rattle.dist_conversation.specs.Conversations.{IsBetween}
use Rattle.distping_capture.specs.declared.connections.CapturedConnection.{CapturedConnection}
use Rattle.distping_capture.proofs.Following.{here_is, place_found}
use Rattle.distping_capture.proofs.connections.CapturedConnections.place_of.Goals as goal

pub returns-then-is_between-clause-there : goal.returns-then-is_between-clause-there
returns-then-is_between-clause-there g c =
    let xs = c.args.self.now.connections.items in
    let place = c.loop-place.place - 1 in
    let own = c.index.result.now in
    let within : place < length xs = omega (arith, c.loop-place.invariant) in
    place_found c.args.segment.now xs place own (here_is xs place own within c.index.ensures)
    (subst (λ (x : CapturedConnection). IsBetween x.seen c.args.segment.now) c.deref.ensures (c.is_between.ensures.0 c.if-is_between.true))
