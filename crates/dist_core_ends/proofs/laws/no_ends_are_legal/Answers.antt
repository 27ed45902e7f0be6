use Rattle.dist_core_ends.proofs.Legal.{none-legal}
use Rattle.dist_core_ends.proofs.laws.no_ends_are_legal.Goals as goal

pub returns : goal.returns
returns c = none-legal
