use Rattle.dist_core_laws.proofs.Succeeding.{open-exact, open-most, open-lost}
use Rattle.dist_core_laws.proofs.step_laws.open_ends_after_a_step.Goals as goal

pub returns : goal.returns
returns c = record { exact = open-exact; most = open-most; loss = open-lost }
