use Rattle.distping_capture.proofs.Keeping.{on_ok}
use Rattle.distping_capture.proofs.connections.CapturedConnections.make_room.Goals as goal

pub returns : goal.returns
returns g c =
    on_ok c.give_up.result c.give_up.ensures.goes_on
    (λ goes t port segments json old p. goes t port segments json old (record { port_is = p.port_is; keeps = p.keeps; each = p.each }))
