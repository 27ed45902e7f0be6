use Rattle.dist_core_laws.proofs.Forgetting.{same_step}
use Rattle.dist_core_laws.proofs.forgetting_laws.forgetting_changes_no_step.Goals as goal

pub returns : goal.returns
returns c = same_step
