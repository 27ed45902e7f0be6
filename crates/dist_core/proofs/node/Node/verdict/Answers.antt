use Rattle.dist_core.proofs.Words.{rules}
use Rattle.dist_core.proofs.node.Node.verdict.Goals as goal

pub returns : goal.returns
returns c = search rules
