use Rattle.std.proofs.Common.{refl}
use Rattle.dist_run_hosts.proofs.orders.are_named.Goals as goal

pub returns-then-are_followed : goal.returns-then-are_followed
returns-then-are_followed c = (λ t. (c.if-are_followed.ensures.0 refl, c.are_ordered.ensures.0 t), λ a. c.are_ordered.ensures.1 a.1)
