use Rattle.dist_core_laws.proofs.Succeeding.{lost-closed}
use Rattle.dist_core_laws.proofs.step_laws.a_lost_end_is_closed.Goals as goal

pub returns : goal.returns
returns c = lost-closed
