use Rattle.dist_core.proofs.Rows.{row-in}
use Rattle.dist_core_laws.proofs.laws.steps_are_rows.Goals as goal

pub returns : goal.returns
returns c = row-in
