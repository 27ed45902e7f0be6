use Rattle.dist_core_ends.proofs.Words.{rules}
use Rattle.dist_core_ends.proofs.ends.Ends.still.Goals as goal

pub returns-in-Ok-Up : goal.returns-in-Ok-Up
returns-in-Ok-Up c = search rules
