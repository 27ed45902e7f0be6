use Rattle.std.proofs.Common.{◌≡◌, vec_len}
use Rattle.dist_locked_book.specs.History.{AreFresh}
use Rattle.dist_locked_book.proofs.seat.fresh_seats.Given as goal

abbrev pub invariant-loop-number : goal.invariant-loop-number
invariant-loop-number l = (vec_len l.all ≡ l.number) × AreFresh l.all.items
