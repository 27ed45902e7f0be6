use Rattle.std.proofs.Common.{length}
use Rattle.dist_run_hosts.proofs.orders.+are_followed.Given as goal

-- the orders that are left
abbrev pub decreases-are_followed : goal.decreases-are_followed
decreases-are_followed l = length l.some.now
