use Rattle.dist_core_laws.proofs.Succeeding.{places, stands-after}
use Rattle.dist_core_laws.proofs.step_laws.two_ends_change_at_most.Goals as goal

pub returns : goal.returns
returns c = record { places = places; after = stands-after }
