use Rattle.dist_core.proofs.Words.{rules}
use Rattle.dist_core.proofs.dialled.send_reply.Goals as goal

pub returns : goal.returns
returns c = search rules
