use Rattle.dist_cluster.proofs.Reports.{reports-changes}
use Rattle.dist_cluster.proofs.laws.each_change_is_reported_once.Goals as goal

pub returns : goal.returns
returns c = reports-changes
