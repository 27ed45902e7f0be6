use Rattle.dist_core.proofs.Closings.{heard-end}
use Rattle.dist_core_laws.proofs.Succeeding.{effect-end, reply-end}
use Rattle.dist_core_laws.proofs.step_laws.a_reply_is_of_its_end.Goals as goal

pub returns : goal.returns
returns c = record { effect = effect-end; step = reply-end; heard = heard-end }
