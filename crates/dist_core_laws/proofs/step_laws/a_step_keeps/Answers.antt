use Rattle.dist_core_laws.proofs.Succeeding.{keeps-setup, keeps-legal}
use Rattle.dist_core_laws.proofs.step_laws.a_step_keeps.Goals as goal

pub returns : goal.returns
returns c = record { setup = keeps-setup; legal = keeps-legal }
