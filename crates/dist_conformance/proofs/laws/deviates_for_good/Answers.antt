use Rattle.dist_conformance.proofs.Later.{deviates}
use Rattle.dist_conformance.proofs.laws.deviates_for_good.Goals as goal

pub returns : goal.returns
returns c = deviates
