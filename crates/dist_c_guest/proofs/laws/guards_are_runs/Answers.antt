use Rattle.dist_c_guest.proofs.Shown.{run-is-run}
use Rattle.dist_c_guest.proofs.laws.guards_are_runs.Goals as goal

pub returns : goal.returns
returns c = run-is-run
