use Rattle.dist_world_model.proofs.{EndConnections.linked_lives, EndConnections.no-impostors, ReachedWorlds.counted_on}
use Rattle.dist_world_model.proofs.laws.ups_are_linked.Goals as goal

pub returns : goal.returns
returns c = record { runs = linked_lives c.nodes_keep_laws.ensures; counted = counted_on; honest = no-impostors c.nodes_keep_laws.ensures }
