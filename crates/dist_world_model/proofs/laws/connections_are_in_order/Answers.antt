use Rattle.dist_world_model.proofs.ConnectionOrder.{in_order_worlds}
use Rattle.dist_world_model.proofs.laws.connections_are_in_order.Goals as goal

pub returns : goal.returns
returns c = in_order_worlds c.nodes_keep_laws.ensures
