use Rattle.dist_world_model.proofs.Words.{arith, reached_life}
use Rattle.dist_world_lives.proofs.Edits.{at_set, at_past}
use Rattle.dist_world_lives.proofs.incarnations.reach_life.Goals as goal

pub returns-then-place-len : goal.returns-then-place-len
returns-then-place-len c = rw c.reach.ensures (at_set (reached_life c.args.id.0 c.args.conn) c.args.lives.now.items c.args.place c.index_mut-life.result.now (omega arith) c.index_mut-life.ensures.value)

pub returns-else-place-len : goal.returns-else-place-len
returns-else-place-len c = at_past (reached_life c.args.id.0 c.args.conn) c.args.lives.now.items c.args.place (omega arith)
