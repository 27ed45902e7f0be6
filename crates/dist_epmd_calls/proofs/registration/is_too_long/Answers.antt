use Rattle.dist_epmd_calls.proofs.Words.{arith, common_steps}
use Rattle.dist_epmd_calls.proofs.registration.is_too_long.Goals as goal

pub returns-else-name-gt-MOST_OF_TEXTS : goal.returns-else-name-gt-MOST_OF_TEXTS
returns-else-name-gt-MOST_OF_TEXTS c = grind (arith, common_steps)
