use Rattle.dist_run_plan.proofs.Found.{SoFar}
use Rattle.dist_run_plan.proofs.fields.all_of.Given as goal

abbrev pub invariant-loop-value : goal.invariant-loop-value
invariant-loop-value g l = SoFar g.T.FromValue.says l.values l.value-index l.rows.items
