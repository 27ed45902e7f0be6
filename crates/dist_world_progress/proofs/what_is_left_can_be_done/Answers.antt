use Rattle.dist_world_progress.proofs.{Doing.left_can_be_done, Handshakes.on_reached}
use Rattle.dist_world_progress.specs.Undisturbed.{LeftCanBeDone}
use Rattle.dist_world_progress.proofs.what_is_left_can_be_done.Goals as goal

pub returns : goal.returns
returns c = record { runs = left_can_be_done c.nodes_keep_laws.ensures; reached = on_reached LeftCanBeDone (left_can_be_done c.nodes_keep_laws.ensures) }
