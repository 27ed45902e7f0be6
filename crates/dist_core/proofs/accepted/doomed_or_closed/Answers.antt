use Rattle.dist_core.proofs.Words.{rules}
use Rattle.dist_core.proofs.accepted.doomed_or_closed.Goals as goal

pub returns-in_ok-attempt_in-in-AwaitStatus : goal.returns-in_ok-attempt_in-in-AwaitStatus
returns-in_ok-attempt_in-in-AwaitStatus c = search rules
