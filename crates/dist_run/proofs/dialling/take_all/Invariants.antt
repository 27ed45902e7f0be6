use Rattle.std.proofs.Common.{◌≡◌}
use Rattle.dist_run.proofs.dialling.take_all.Given as goal

abbrev pub invariant-loop : goal.invariant-loop
invariant-loop g l = (l.pass.table ≡ l.orders.table) × (l.pass.table ≡ l.fn.pass.table) × (l.pass.second ≡ l.fn.pass.second)
