use Rattle.dist_world_model.proofs.Words.{arith, life_after_end}
use Rattle.dist_world_lives.proofs.Edits.{at_set, at_past}
use Rattle.dist_world_lives.proofs.incarnations.end_life.Goals as goal

pub returns-then-place-len : goal.returns-then-place-len
returns-then-place-len c = rw c.end.ensures (at_set (life_after_end c.args.clock) c.args.lives.now.items c.args.place c.index_mut-life.result.now (omega arith) c.index_mut-life.ensures.value)

pub returns-else-place-len : goal.returns-else-place-len
returns-else-place-len c = at_past (life_after_end c.args.clock) c.args.lives.now.items c.args.place (omega arith)
