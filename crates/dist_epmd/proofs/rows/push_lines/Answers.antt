use Rattle.dist_epmd.proofs.Words.{arith, common_steps}
use Rattle.dist_epmd.proofs.rows.push_lines.Goals as goal

pub loop-row-preserved : goal.loop-row-preserved
loop-row-preserved c = grind (arith, common_steps)
