use Rattle.dist_audit.proofs.Words.{rules}
use Rattle.dist_audit.proofs.walk.follow_all.Goals as goal

pub loop-i-init : goal.loop-i-init
loop-i-init c = search rules
