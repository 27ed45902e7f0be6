use Rattle.std.proofs.Common.{length}
use Rattle.dist_run_hosts.proofs.orders.+rise_within.Given as goal

-- the faults that are left
abbrev pub decreases-rise_within : goal.decreases-rise_within
decreases-rise_within l = length l.faults.now
