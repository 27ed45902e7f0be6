use Rattle.dist_audit.proofs.Words.{rules}
use Rattle.dist_audit.proofs.happenings.own.Goals as goal

pub returns : goal.returns
returns c = search rules
