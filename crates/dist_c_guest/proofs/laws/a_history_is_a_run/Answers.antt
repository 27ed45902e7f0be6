use Rattle.dist_c_guest.proofs.Acts.{a-run}
use Rattle.dist_c_guest.proofs.laws.a_history_is_a_run.Goals as goal

pub returns : goal.returns
returns c = a-run
