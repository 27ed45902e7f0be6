use Rattle.dist_world_progress.proofs.{Undisturbed.undisturbed, Handshakes.on_reached}
use Rattle.dist_world_progress.specs.Undisturbed.{UndisturbedComeUp}
use Rattle.dist_world_progress.proofs.undisturbed_handshakes_come_up.Goals as goal

pub returns : goal.returns
returns c = record { runs = undisturbed c.nodes_keep_laws.ensures; reached = on_reached UndisturbedComeUp (undisturbed c.nodes_keep_laws.ensures) }
