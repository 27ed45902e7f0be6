use Rattle.dist_world_model.proofs.ReachedWorlds.{reached_new, reached_run}
use Rattle.dist_world_model.proofs.laws.worlds_are_reached.Goals as goal

pub returns : goal.returns
returns c = record { new = reached_new; run = reached_run }
