use Rattle.dist_world_progress.proofs.{Connecting.can_connect, Handshakes.on_reached}
use Rattle.dist_world_progress.specs.Connecting.{NodesCanConnect}
use Rattle.dist_world_progress.proofs.nodes_can_connect.Goals as goal

pub returns : goal.returns
returns c = record { runs = can_connect c.nodes_keep_laws.ensures; reached = on_reached NodesCanConnect (can_connect c.nodes_keep_laws.ensures) }
