use Rattle.dist_world_model.proofs.Renewals.{renews-again, renews-anew}
use Rattle.dist_world_model.proofs.laws.renewed_nodes_begin_again.Goals as goal

pub returns : goal.returns
returns c = let last = c.incarnations_are_in_order.ensures.last in record { anew = renews-anew last; again = renews-again last }
