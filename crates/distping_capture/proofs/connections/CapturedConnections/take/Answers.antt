use Rattle.distping_capture.proofs.Keeping.{on_ok}
use Rattle.distping_capture.proofs.connections.CapturedConnections.take.Goals as goal

pub returns-in-Some : goal.returns-in-Some
returns-in-Some g c =
    on_ok c.hand_on.result c.hand_on.ensures
    (λ takes t port segments json old p. takes c.in-Some.ensures.within c.in-Some.ensures.there t port segments json old (record { port_is = p.port_is; keeps = p.keeps; each = p.each }))

pub returns : goal.returns
returns g c =
    on_ok c.begin.result c.begin.ensures
    (λ takes t port segments json old p. takes t port segments json old (c.in_ok-make_room.ensures t port segments json old (record { port_is = p.port_is; keeps = p.keeps; each = p.each })))
