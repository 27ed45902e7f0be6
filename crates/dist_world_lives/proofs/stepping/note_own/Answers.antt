use Rattle.std.proofs.Common.{arith}
use Rattle.dist_world_lives.specs.Stepping.{own_row}
use Rattle.dist_world_lives.proofs.Edits.{at_set, at_past}
use Rattle.dist_world_lives.proofs.stepping.note_own.Goals as goal

pub returns-then-i-len : goal.returns-then-i-len
returns-then-i-len c = rw c.note.ensures (at_set (own_row c.args.clock c.args.note c.args.is_up) c.args.rows.now.items c.args.id.0 c.index_mut-row.result.now (omega arith) c.index_mut-row.ensures.value)

pub returns-else-i-len : goal.returns-else-i-len
returns-else-i-len c = at_past (own_row c.args.clock c.args.note c.args.is_up) c.args.rows.now.items c.args.id.0 (omega arith)
