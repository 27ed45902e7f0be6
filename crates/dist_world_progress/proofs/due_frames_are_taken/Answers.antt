use Rattle.dist_world_progress.proofs.{Handshakes.on_reached, Taking.due_frames}
use Rattle.dist_world_progress.specs.Progress.{DueIsTaken}
use Rattle.dist_world_progress.proofs.due_frames_are_taken.Goals as goal

pub returns : goal.returns
returns c = record { runs = due_frames c.nodes_keep_laws.ensures; reached = on_reached DueIsTaken (due_frames c.nodes_keep_laws.ensures) }
