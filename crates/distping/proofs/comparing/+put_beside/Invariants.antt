-- Each call has one node less.
use Rattle.std.proofs.Common.{length}
use Rattle.distping.proofs.comparing.+put_beside.Given as goal

abbrev pub decreases-put_beside : goal.decreases-put_beside
decreases-put_beside l = length l.others.now
