use Rattle.dist_c_guest.proofs.Common.{◌≡◌, slice_get, bodies}
use Rattle.dist_c_guest.proofs.copies.body_at.Given as goal

-- what is looked for is at this place of what is left
abbrev pub invariant-loop-left : goal.invariant-loop-left
invariant-loop-left l = slice_get (bodies l.bytes) l.place ≡ slice_get (bodies l.rest) l.left

abbrev pub decreases-loop-left : goal.decreases-loop-left
decreases-loop-left l = l.left
