use Rattle.std.proofs.Common.{ap}
use Rattle.dist_locked.proofs.Moves.{puts, put_shows}
use Rattle.dist_locked.proofs.queue.Orders.put.Goals as goal

pub push_as-requires-clause-rule : goal.push_as-requires-clause-rule
push_as-requires-clause-rule g c = let may = ap (λ v. v.puts) c.pass.invariant.1 in (puts _ _ _ _ may, put_shows _ _ may)
