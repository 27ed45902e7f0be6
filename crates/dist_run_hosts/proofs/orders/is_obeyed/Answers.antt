use Rattle.dist_run_hosts.proofs.Obeying.{counts-decide}
use Rattle.dist_run_hosts.proofs.orders.is_obeyed.Goals as goal

pub returns : goal.returns
returns c = counts-decide c.args.orders.now c.args.faults.now c.args.closed.now c.args.to.now _ _ _ _ _ _ c.name-from.ensures c.as_slice.ensures.value c.count_orders-ordered.ensures c.count_faults-reported.ensures c.count_dials-dialled.ensures c.is_sum.ensures
