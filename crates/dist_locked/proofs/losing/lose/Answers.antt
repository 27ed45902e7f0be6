use Rattle.dist_locked.proofs.Losses.{lost}
use Rattle.dist_locked.proofs.losing.lose.Goals as goal

pub returns-clause-lost : goal.returns-clause-lost
returns-clause-lost g c = lost c.args.end_ c.args.why c.args.seat.now.list c.step.new.seat.list c.args.seat.now.number c.step.result c.step.ensures.receipt c.step.ensures.line c.step.ensures.err c.step.ensures.refused
