use Rattle.dist_cluster.proofs.Tallies.{count-all, least-all, recent-all, worst-all}
use Rattle.dist_cluster.proofs.laws.what_is_kept_of_latencies.Goals as goal

pub returns-clause-count : goal.returns-clause-count
returns-clause-count c = count-all

pub returns-clause-least : goal.returns-clause-least
returns-clause-least c = least-all

pub returns-clause-worst : goal.returns-clause-worst
returns-clause-worst c = worst-all

pub returns-clause-recent : goal.returns-clause-recent
returns-clause-recent c = recent-all
