use Rattle.std.proofs.Common.{rules}
use Rattle.dist_core_setup.specs.Rules.{is_good}
use Rattle.dist_core_setup.proofs.checks.is_refused.Goals as goal

pub returns-else-not-is_allowed : goal.returns-else-not-is_allowed
unfolding is_good
returns-else-not-is_allowed c = search rules
