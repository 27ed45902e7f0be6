use Rattle.dist_core_laws.proofs.Forgetting.{forgets_alike, forgets_still_alike}
use Rattle.dist_core_laws.proofs.forgetting_laws.a_node_that_forgets_is_alike.Goals as goal

pub returns : goal.returns
returns c = record { itself = forgets_alike; other = forgets_still_alike }
