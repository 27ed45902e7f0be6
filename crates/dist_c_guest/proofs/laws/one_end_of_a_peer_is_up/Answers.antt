use Rattle.dist_c_guest.proofs.Shown.{one-of-a-peer}
use Rattle.dist_c_guest.proofs.laws.one_end_of_a_peer_is_up.Goals as goal

pub returns : goal.returns
returns c = one-of-a-peer
