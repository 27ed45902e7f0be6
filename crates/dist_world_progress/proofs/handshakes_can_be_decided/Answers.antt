use Rattle.dist_world_progress.proofs.Deciding.{can_be_decided}
use Rattle.dist_world_progress.proofs.Handshakes.{on_reached}
use Rattle.dist_world_progress.specs.Progress.{HandshakesCanBeDecided}
use Rattle.dist_world_progress.proofs.handshakes_can_be_decided.Goals as goal

pub returns : goal.returns
returns c = record { runs = can_be_decided c.nodes_keep_laws.ensures; reached = on_reached HandshakesCanBeDecided (can_be_decided c.nodes_keep_laws.ensures) }
