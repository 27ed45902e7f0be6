use Rattle.std.proofs.Common.{rules}
use Rattle.distnode.proofs.matched.names_order.Goals as goal

pub returns : goal.returns
returns c = search rules
