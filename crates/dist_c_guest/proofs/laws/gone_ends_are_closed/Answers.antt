use Rattle.dist_c_guest.proofs.Shown.{gone-closed, gone-hidden}
use Rattle.dist_c_guest.proofs.laws.gone_ends_are_closed.Goals as goal

pub returns : goal.returns
returns c = record { closed = gone-closed; hidden = gone-hidden }
