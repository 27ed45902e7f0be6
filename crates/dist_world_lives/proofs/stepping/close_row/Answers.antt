use Rattle.dist_world_model.proofs.Words.{arith, shut_row}
use Rattle.dist_world_lives.proofs.Edits.{at_set, at_past}
use Rattle.dist_world_lives.proofs.stepping.close_row.Goals as goal

pub returns-then-i-len : goal.returns-then-i-len
returns-then-i-len c = rw (c.in-Some.is, c.close.ensures) (at_set (shut_row c.args.clock) c.args.rows.now.items c.in-Some.id.0 c.index_mut-row.result.now (omega arith) c.index_mut-row.ensures.value)

pub returns-else-i-len : goal.returns-else-i-len
returns-else-i-len c = rw c.in-Some.is (at_past (shut_row c.args.clock) c.args.rows.now.items c.in-Some.id.0 (omega arith))
