use Rattle.dist_audit.proofs.Words.{rules}
use Rattle.dist_audit.proofs.auditing.opening_world.Goals as goal

pub returns-in-Ok-clause-paired : goal.returns-in-Ok-clause-paired
returns-in-Ok-clause-paired c = search rules
