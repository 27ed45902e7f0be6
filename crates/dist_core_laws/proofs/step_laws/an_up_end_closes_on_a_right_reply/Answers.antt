use Rattle.dist_core_laws.proofs.UpEnds.{up-ends-on-reply}
use Rattle.dist_core_laws.proofs.step_laws.an_up_end_closes_on_a_right_reply.Goals as goal

pub returns : goal.returns
returns c = up-ends-on-reply
