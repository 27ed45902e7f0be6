use Rattle.dist_core_laws.proofs.Records.{in-use-stays}
use Rattle.dist_core_laws.proofs.record_laws.cookies_in_use_stay.Goals as goal

pub returns : goal.returns
returns c = in-use-stays
