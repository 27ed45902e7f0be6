use Rattle.dist_world_progress.proofs.OneSided.{one_sided}
use Rattle.dist_world_progress.proofs.Handshakes.{on_reached}
use Rattle.dist_world_progress.specs.Progress.{OneSidedAwaitAck}
use Rattle.dist_world_progress.proofs.one_sided_connections_await_ack.Goals as goal

pub returns : goal.returns
returns c = record { runs = one_sided c.nodes_keep_laws.ensures; reached = on_reached OneSidedAwaitAck (one_sided c.nodes_keep_laws.ensures) }
