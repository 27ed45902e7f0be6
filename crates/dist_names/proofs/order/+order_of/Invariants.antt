use Rattle.std.proofs.Common.{length}
use Rattle.dist_names.proofs.order.+order_of.Given as goal

abbrev pub decreases-order_of : goal.decreases-order_of
decreases-order_of l = length l.ours.now
