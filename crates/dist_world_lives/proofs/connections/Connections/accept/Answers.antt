use Rattle.dist_world_model.proofs.Words.{arith, accepted_by}
use Rattle.dist_world_lives.proofs.Edits.{at_set, at_past}
use Rattle.dist_world_lives.proofs.connections.Connections.accept.Goals as goal

pub returns-then-place-len : goal.returns-then-place-len
returns-then-place-len c = rw (← c.self.view_is) (rw c.accept.ensures (at_set (accepted_by c.args.id.0) c.self.inside.all.items c.args.place c.index_mut-conn.result.now (omega arith) c.index_mut-conn.ensures.value))

pub returns-else-place-len : goal.returns-else-place-len
returns-else-place-len c = rw (← c.self.view_is) (at_past (accepted_by c.args.id.0) c.self.inside.all.items c.args.place (omega arith))
