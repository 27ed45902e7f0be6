use Rattle.dist_conformance.proofs.Decided.{once_ended, once_late}
use Rattle.dist_conformance.proofs.laws.decided_in_the_end.Goals as goal

pub returns-clause-ended : goal.returns-clause-ended
returns-clause-ended c = once_ended

pub returns-clause-late : goal.returns-clause-late
returns-clause-late c = once_late
