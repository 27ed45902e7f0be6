use Rattle.dist_drive.proofs.Words.{rules}
use Rattle.dist_drive.proofs.driving.say_reply.Goals as goal

pub returns-in_err-after_reply-clause-says : goal.returns-in_err-after_reply-clause-says
returns-in_err-after_reply-clause-says c = search rules

pub returns-clause-says : goal.returns-clause-says
returns-clause-says c = search rules
