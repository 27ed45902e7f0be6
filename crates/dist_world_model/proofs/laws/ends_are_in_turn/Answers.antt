use Rattle.dist_world_model.proofs.EndOrder.{in_turn_lives}
use Rattle.dist_world_model.proofs.laws.ends_are_in_turn.Goals as goal

pub returns : goal.returns
returns c = in_turn_lives c.nodes_keep_laws.ensures
