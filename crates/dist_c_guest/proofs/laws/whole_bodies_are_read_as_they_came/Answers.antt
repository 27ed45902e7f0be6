use Rattle.dist_c_guest.proofs.WholeBodies.{whole-message}
use Rattle.dist_c_guest.proofs.laws.whole_bodies_are_read_as_they_came.Goals as goal

pub returns : goal.returns
returns c = whole-message
