use Rattle.dist_cluster.proofs.Reports.{reports-last}
use Rattle.dist_cluster.proofs.laws.reports_show_how_things_stand.Goals as goal

pub returns : goal.returns
returns c = reports-last
