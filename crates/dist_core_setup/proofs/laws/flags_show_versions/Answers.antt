use Rattle.dist_core_setup.proofs.Versions.{reported}
use Rattle.dist_core_setup.proofs.laws.flags_show_versions.Goals as goal

pub returns : goal.returns
returns c = reported
