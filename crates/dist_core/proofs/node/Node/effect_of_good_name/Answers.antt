use Rattle.dist_core.proofs.Words.{rules}
use Rattle.dist_core.proofs.node.Node.effect_of_good_name.Goals as goal

pub returns-then-is_refused : goal.returns-then-is_refused
returns-then-is_refused c = search rules
