use Rattle.dist_world_model.proofs.EndOrder.{alone_lives}
use Rattle.dist_world_model.proofs.laws.replies_are_alone.Goals as goal

pub returns : goal.returns
returns c = alone_lives c.nodes_keep_laws.ensures
