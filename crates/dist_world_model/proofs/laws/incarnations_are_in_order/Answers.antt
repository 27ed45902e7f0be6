use Rattle.dist_world_model.proofs.ConnectionOrder.{above_worlds, only_last_runs}
use Rattle.dist_world_model.proofs.laws.incarnations_are_in_order.Goals as goal

pub returns : goal.returns
returns c = record { above = above_worlds c.nodes_keep_laws.ensures; last = only_last_runs c.nodes_keep_laws.ensures }
