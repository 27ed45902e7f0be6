use Rattle.std.proofs.Common.{◌<◌, ◌≡◌, ◌-◌, ap, arith, vec_len, vec_capacity}
use Rattle.dist_locked_book.proofs.Histories.{room_left}
use Rattle.dist_locked_book.proofs.seat.Seat.keep.Goals as goal

pub invariant_of-self : goal.invariant_of-self
invariant_of-self c = λ h.
    let more : 1 < c.args.self.now.spare = room_left _ _ c.args.receipt _ c.push_reserved.ensures.items h c.requires in
    let spare : vec_capacity c.self.inside.receipts - vec_len c.self.inside.receipts ≡ c.args.self.now.spare = ap (λ s. s.spare) c.self.view_is in
    omega arith
