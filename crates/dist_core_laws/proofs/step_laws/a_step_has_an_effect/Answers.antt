use Rattle.dist_core_laws.proofs.Succeeding.{has-effect}
use Rattle.dist_core_laws.proofs.step_laws.a_step_has_an_effect.Goals as goal

pub returns : goal.returns
returns c = has-effect
