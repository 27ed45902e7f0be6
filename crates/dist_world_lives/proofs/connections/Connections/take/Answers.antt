use Rattle.dist_world_model.proofs.Words.{arith, body_taken, change_to}
use Rattle.dist_world_lives.proofs.Edits.{at_set, at_past}
use Rattle.dist_world_lives.proofs.connections.Connections.take.Goals as goal

pub returns-then-place-len : goal.returns-then-place-len
returns-then-place-len c = rw (← c.self.view_is) (rw c.take.ensures (at_set (change_to c.args.side body_taken) c.self.inside.all.items c.args.place c.index_mut-conn.result.now (omega arith) c.index_mut-conn.ensures.value))

pub returns-else-place-len : goal.returns-else-place-len
returns-else-place-len c = rw (← c.self.view_is) (at_past (change_to c.args.side body_taken) c.self.inside.all.items c.args.place (omega arith))
