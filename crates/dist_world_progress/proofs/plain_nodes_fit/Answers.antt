use Rattle.dist_world_progress.proofs.Fitting.{plain_fit}
use Rattle.dist_world_progress.proofs.plain_nodes_fit.Goals as goal

pub returns : goal.returns
returns c = plain_fit
