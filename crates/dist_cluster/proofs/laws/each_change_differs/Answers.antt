use Rattle.dist_cluster.proofs.Reports.{reports-follow, reports-differ}
use Rattle.dist_cluster.proofs.laws.each_change_differs.Goals as goal

pub returns-clause-before : goal.returns-clause-before
returns-clause-before c = λ targets history early late change fits e. (reports-follow targets history early late change fits e).0

pub returns-clause-other : goal.returns-clause-other
returns-clause-other c = reports-differ
