use Rattle.dist_core_ends.proofs.Words.{rules}
use Rattle.dist_core_ends.proofs.slots.empty.Goals as goal

pub returns-clause-empty : goal.returns-clause-empty
returns-clause-empty c = search rules
