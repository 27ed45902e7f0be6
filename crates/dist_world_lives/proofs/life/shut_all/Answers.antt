use Rattle.std.proofs.Common.{add-one, arith}
use Rattle.dist_world_lives.proofs.Edits.{shut_more}
use Rattle.dist_world_lives.proofs.life.shut_all.Goals as goal

pub loop-row-preserved : goal.loop-row-preserved
loop-row-preserved c = rw (add-one, c.close.ensures, c.loop-row.invariant) (shut_more c.args.clock c.args.rows.now c.loop-row.row-index c.row-item.result (omega arith))
