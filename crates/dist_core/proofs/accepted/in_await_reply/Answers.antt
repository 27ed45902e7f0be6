use Rattle.dist_core.proofs.Words.{rules}
use Rattle.dist_core.proofs.accepted.in_await_reply.Goals as goal

pub returns-clause-effect : goal.returns-clause-effect
returns-clause-effect c es id = search rules
