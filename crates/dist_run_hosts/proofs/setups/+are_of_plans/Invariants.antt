use Rattle.std.proofs.Common.{length}
use Rattle.dist_run_hosts.proofs.setups.+are_of_plans.Given as goal

-- the plans that are left
abbrev pub decreases-are_of_plans : goal.decreases-are_of_plans
decreases-are_of_plans l = length l.plans.now
