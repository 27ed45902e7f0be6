-- Each call has one node less.
use Rattle.std.proofs.Common.{length}
use Rattle.distping.proofs.comparing.+put_pairs.Given as goal

abbrev pub decreases-put_pairs : goal.decreases-put_pairs
decreases-put_pairs l = length l.halves.now
