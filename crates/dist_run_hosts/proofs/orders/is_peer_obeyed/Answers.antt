use Rattle.dist_run_hosts.proofs.orders.is_peer_obeyed.Goals as goal

pub returns-in-Dial : goal.returns-in-Dial
returns-in-Dial c = rw c.in-Dial.is c.is_obeyed.ensures
