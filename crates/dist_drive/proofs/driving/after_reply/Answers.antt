use Rattle.dist_drive.proofs.Words.{rules}
use Rattle.dist_drive.proofs.driving.after_reply.Goals as goal

pub returns-in-None : goal.returns-in-None
returns-in-None c = search rules
