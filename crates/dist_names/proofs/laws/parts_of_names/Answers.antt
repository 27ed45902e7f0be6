use Rattle.dist_names.proofs.Places.{parts}
use Rattle.dist_names.proofs.laws.parts_of_names.Goals as goal

pub returns : goal.returns
returns c = parts
