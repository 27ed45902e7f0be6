use Rattle.dist_world_progress.proofs.{Connecting.can_return, Handshakes.on_reached}
use Rattle.dist_world_progress.specs.Connecting.{NodesCanReturn}
use Rattle.dist_world_progress.proofs.nodes_can_return.Goals as goal

pub returns : goal.returns
returns c = on_reached NodesCanReturn (can_return c.nodes_keep_laws.ensures)
