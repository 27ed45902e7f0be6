use Rattle.dist_c_guest.proofs.{Common.◌≡◌, Common.slice_get, Common.sym, Common.ap, Common.◌∙◌, Common.arith, Common.bodies, Places.first_there}
use Rattle.dist_c_guest.proofs.copies.body_at.Goals as goal

pub returns : goal.returns
returns c =
    let none_left : 0 ≡ c.loop-left.left = omega (arith, c.loop-left-test.false) in
    first_there c.loop-left.rest.now _ c.first_body-2.ensures ∙ ap (slice_get (bodies c.loop-left.rest.now)) none_left ∙ sym c.loop-left.invariant
