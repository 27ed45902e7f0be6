-- Each call has one node less.
use Rattle.std.proofs.Common.{length}
use Rattle.dist_cluster.proofs.summary.+count_pairs.Given as goal

abbrev pub decreases-count_pairs : goal.decreases-count_pairs
decreases-count_pairs l = length l.halves.now
