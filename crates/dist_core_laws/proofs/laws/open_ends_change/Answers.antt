use Rattle.dist_core_laws.proofs.OpenCounts.{open_change}
use Rattle.dist_core_laws.proofs.laws.open_ends_change.Goals as goal

pub returns : goal.returns
returns c n v fresh f legal is = open_change n legal v fresh f is
