use Rattle.dist_epmd_calls.proofs.Words.{rules}
use Rattle.dist_epmd_calls.proofs.serve.close_cut.Goals as goal

pub returns-in-Alive : goal.returns-in-Alive
returns-in-Alive c = search rules
