use Rattle.std.proofs.Common.{rules}
use Rattle.dist_core_setup.specs.Rules.{required_of}
use Rattle.dist_core_setup.proofs.checks.required_of.Goals as goal

pub returns-in-Old : goal.returns-in-Old
unfolding required_of
returns-in-Old c = search rules
