use Rattle.dist_world_model.proofs.Words.{arith, reached_row}
use Rattle.dist_world_lives.proofs.Edits.{at_set, at_past}
use Rattle.dist_world_lives.proofs.life.reach_row.Goals as goal

pub returns-then-i-len : goal.returns-then-i-len
returns-then-i-len c = rw c.reach.ensures (at_set (reached_row c.args.conn) c.args.rows.now.items c.args.id.0 c.index_mut-row.result.now (omega arith) c.index_mut-row.ensures.value)

pub returns-else-i-len : goal.returns-else-i-len
returns-else-i-len c = at_past (reached_row c.args.conn) c.args.rows.now.items c.args.id.0 (omega arith)
