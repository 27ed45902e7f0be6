use Rattle.dist_run_hosts.specs.Orders.{OrderIsObeyed}
use Rattle.dist_run_hosts.proofs.Obeying.{others-decide, first-decides}
use Rattle.dist_run_hosts.proofs.orders.+are_followed.Goals as goal

pub returns-then-is_order_obeyed : goal.returns-then-is_order_obeyed
returns-then-is_order_obeyed t c = others-decide (OrderIsObeyed c.args.orders.now c.args.faults.now c.args.closed.now) c.args.some.now c.order-item.result c.is_order_obeyed.result c.are_followed.result c.in-len1-up.len_at_least c.order-item.is c.is_order_obeyed.ensures c.are_followed.ensures c.if-is_order_obeyed.true

pub returns-else-is_order_obeyed : goal.returns-else-is_order_obeyed
returns-else-is_order_obeyed t c = first-decides (OrderIsObeyed c.args.orders.now c.args.faults.now c.args.closed.now) c.args.some.now c.order-item.result c.is_order_obeyed.result c.in-len1-up.len_at_least c.order-item.is c.is_order_obeyed.ensures c.if-is_order_obeyed.false
