use Rattle.dist_c_guest.proofs.Shown.{shown-up}
use Rattle.dist_c_guest.proofs.laws.shown_ends_are_up.Goals as goal

pub returns : goal.returns
returns c = shown-up c.acts_keep_ends.ensures.legal c.acts_keep_ends.ensures.ends
