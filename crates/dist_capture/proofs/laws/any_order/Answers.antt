use Rattle.dist_capture.proofs.Arrivals as lemmas
use Rattle.dist_capture.proofs.laws.any_order.Goals as goal

pub returns : goal.returns
returns c = lemmas.any_order
