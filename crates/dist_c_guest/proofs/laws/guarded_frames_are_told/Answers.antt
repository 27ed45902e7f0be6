use Rattle.dist_c_guest.proofs.Held.{frame-told}
use Rattle.dist_c_guest.proofs.laws.guarded_frames_are_told.Goals as goal

pub returns : goal.returns
returns c = λ result id body fresh old new shown. frame-told id body fresh old new shown result
