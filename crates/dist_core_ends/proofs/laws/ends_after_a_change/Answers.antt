use Rattle.dist_core_ends.proofs.Changes.{get-after}
use Rattle.dist_core_ends.proofs.laws.ends_after_a_change.Goals as goal

pub returns : goal.returns
returns c = get-after
