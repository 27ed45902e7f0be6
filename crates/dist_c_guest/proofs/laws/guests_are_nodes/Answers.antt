use Rattle.dist_c_guest.proofs.GuestWorlds.{guests-run}
use Rattle.dist_c_guest.proofs.laws.guests_are_nodes.Goals as goal

pub returns : goal.returns
returns c = guests-run c.frames_are_canonical.ensures
