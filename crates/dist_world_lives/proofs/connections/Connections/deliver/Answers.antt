use Rattle.dist_world_model.proofs.Words.{arith, after_delivery, change_to}
use Rattle.dist_world_lives.proofs.Edits.{at_set}
use Rattle.dist_world_lives.proofs.connections.Connections.deliver.Goals as goal

pub returns-clause-ok : goal.returns-clause-ok
returns-clause-ok c = rw (← c.self.view_is) (rw c.in_ok-deliver.ensures.ok (at_set (change_to c.args.side (after_delivery c.args.count)) c.self.inside.all.items c.args.place c.index_mut-conn.result.now (omega arith) c.index_mut-conn.ensures.value))
