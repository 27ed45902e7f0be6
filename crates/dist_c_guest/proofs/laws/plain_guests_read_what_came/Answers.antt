use Rattle.dist_c_guest.proofs.GivenBack.{plain-reads}
use Rattle.dist_c_guest.proofs.laws.plain_guests_read_what_came.Goals as goal

pub returns : goal.returns
returns c = plain-reads
