use Rattle.dist_c_guest.proofs.Common.{inl}
use Rattle.dist_c_guest.proofs.changes.set_usual_cookie.Goals as goal

pub returns-in-Ok : goal.returns-in-Ok
returns-in-Ok c = rw c.in-Ok.ensures.exact (inl c.make_change.ensures)
