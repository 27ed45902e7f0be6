use Rattle.dist_core_laws.proofs.Legal.{legal_opening, legal_runs, legal_step}
use Rattle.dist_core_laws.proofs.laws.entries_are_whole.Goals as goal

pub returns : goal.returns
returns c = record { runs = legal_runs; first = legal_opening; step = legal_step }
