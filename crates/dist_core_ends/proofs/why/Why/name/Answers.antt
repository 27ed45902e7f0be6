use Rattle.dist_core_ends.proofs.Words.{rules}
use Rattle.dist_core_ends.proofs.why.Why.name.Goals as goal

pub returns-in-Crossed : goal.returns-in-Crossed
returns-in-Crossed c = search rules
