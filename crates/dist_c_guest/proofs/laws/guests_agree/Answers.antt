use Rattle.dist_c_guest.proofs.GuestWorlds.{guests-agree}
use Rattle.dist_c_guest.proofs.laws.guests_agree.Goals as goal

pub returns : goal.returns
returns c = guests-agree c.frames_are_canonical.ensures c.nodes_agree.ensures.runs
