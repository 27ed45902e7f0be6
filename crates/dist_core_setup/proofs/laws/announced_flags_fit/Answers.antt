use Rattle.dist_core_setup.proofs.Wholes.{announced-fits}
use Rattle.dist_core_setup.proofs.laws.announced_flags_fit.Goals as goal

pub returns : goal.returns
returns c = announced-fits
