use Rattle.dist_world_progress.proofs.{Fair.fair_come_up, Handshakes.on_reached}
use Rattle.dist_world_progress.specs.Undisturbed.{FairComeUp}
use Rattle.dist_world_progress.proofs.undisturbed_handshakes_come_up_some_time.Goals as goal

pub returns : goal.returns
returns c = record { runs = fair_come_up c.nodes_keep_laws.ensures; reached = on_reached FairComeUp (fair_come_up c.nodes_keep_laws.ensures) }
