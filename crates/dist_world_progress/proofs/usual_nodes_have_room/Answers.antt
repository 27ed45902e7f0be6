use Rattle.dist_world_progress.proofs.{Bounds.usual_nodes, Handshakes.on_reached}
use Rattle.dist_world_progress.specs.Connecting.{UsualNodesHaveRoom}
use Rattle.dist_world_progress.proofs.usual_nodes_have_room.Goals as goal

pub returns : goal.returns
returns c = on_reached UsualNodesHaveRoom (λ ss hs good fit. usual_nodes c.nodes_keep_laws.ensures ss hs)
