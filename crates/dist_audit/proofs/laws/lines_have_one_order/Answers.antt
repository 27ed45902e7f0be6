use Rattle.dist_audit.proofs.Sorting.{one-order-of-lines}
use Rattle.dist_audit.proofs.laws.lines_have_one_order.Goals as goal

pub returns : goal.returns
returns c = one-order-of-lines
