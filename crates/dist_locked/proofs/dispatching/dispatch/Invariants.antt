use Rattle.std.proofs.Common.{◌≡◌, length}
use Rattle.dist_locked.specs.Orders.{orders_below}
use Rattle.dist_locked.proofs.dispatching.dispatch.Given as goal

abbrev pub invariant-loop-number : goal.invariant-loop-number
invariant-loop-number g l = (l.pass.table ≡ l.orders.table) × (l.pass.table ≡ l.fn.pass.table) × (l.pass.put ≡ orders_below l.number) × (length l.pass.put ≡ l.number)
