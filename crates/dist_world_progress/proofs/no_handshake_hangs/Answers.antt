use Rattle.dist_world_progress.proofs.Handshakes.{none_hangs}
use Rattle.dist_world_progress.proofs.Handshakes.{on_reached}
use Rattle.dist_world_progress.specs.Progress.{NoHandshakeHangs}
use Rattle.dist_world_progress.proofs.no_handshake_hangs.Goals as goal

pub returns : goal.returns
returns c = record { runs = none_hangs c.nodes_keep_laws.ensures; reached = on_reached NoHandshakeHangs (none_hangs c.nodes_keep_laws.ensures) }
