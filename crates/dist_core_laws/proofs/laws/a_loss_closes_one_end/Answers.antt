use Rattle.dist_core_laws.proofs.OpenCounts.{loss_change}
use Rattle.dist_core_laws.proofs.laws.a_loss_closes_one_end.Goals as goal

pub returns : goal.returns
returns c = loss_change
