use Rattle.std.proofs.Common.{refl}
use Rattle.distping_capture.proofs.Following.{at_port, new_awaits, on_added}
use Rattle.distping_capture.proofs.connections.CapturedConnections.begin.Goals as goal

pub returns : goal.returns
returns g c = at_port c.args.segment.now _ _
    (λ t segments json old p.
    let f = c.args.self.now in
    let port = f.mapper_port in
    let s = c.args.segment.now in
    let has = c.in_ok-take.ensures t port segments json old (new_awaits t port segments s c.new-connection.result c.new-connection.ensures.seen c.new-connection.ensures.open_.0) p.keeps in
    record { port_is = refl; keeps = has.keeps; each = on_added t port segments s f.connections.items c.push.new.self.items c.in_ok-made.made c.take.new.self c.in_ok-push.ensures.items c.in_ok-made.ensures.ok has.follows p.each })
