use Rattle.dist_world_model.proofs.EndOrder.{decided_lives}
use Rattle.dist_world_model.proofs.laws.crossings_are_decided.Goals as goal

pub returns : goal.returns
returns c = decided_lives c.nodes_keep_laws.ensures
