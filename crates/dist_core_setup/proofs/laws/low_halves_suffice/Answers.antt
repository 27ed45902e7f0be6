use Rattle.dist_core_setup.proofs.Versions.{halves_suffice}
use Rattle.dist_core_setup.proofs.laws.low_halves_suffice.Goals as goal

pub returns : goal.returns
returns c = halves_suffice
