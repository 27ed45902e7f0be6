use Rattle.dist_core_laws.proofs.Limits.{usual_numbers}
use Rattle.dist_core_laws.proofs.limit_laws.usual_nodes_have_numbers.Goals as goal

pub returns : goal.returns
returns c = usual_numbers
