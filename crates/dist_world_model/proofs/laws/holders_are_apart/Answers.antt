use Rattle.dist_world_model.proofs.EndOrder.{apart_lives}
use Rattle.dist_world_model.proofs.laws.holders_are_apart.Goals as goal

pub returns : goal.returns
returns c = apart_lives c.nodes_keep_laws.ensures
