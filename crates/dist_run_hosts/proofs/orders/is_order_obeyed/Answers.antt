use Rattle.dist_run_hosts.proofs.orders.is_order_obeyed.Goals as goal

pub returns : goal.returns
returns c = (λ t. record { peer = c.is_obeyed.ensures.0 t }, λ h. c.is_obeyed.ensures.1 h.peer)
