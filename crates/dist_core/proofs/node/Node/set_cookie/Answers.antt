use Rattle.dist_core.proofs.Words.{rules}
use Rattle.dist_core.proofs.node.Node.set_cookie.Goals as goal

pub returns-in_default : goal.returns-in_default
returns-in_default c = search rules
