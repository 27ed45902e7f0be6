use Rattle.distping_capture.proofs.connections.CapturedConnections.give_up_all.Goals as goal

pub open-preserved : goal.open-preserved
open-preserved g c = λ t port segments json old p. c.in_ok-give_up.ensures.goes_on t port segments json old (c.open.invariant t port segments json old p)
