use Rattle.std.proofs.Common.{◌≡◌, ◌↔◌, ◌≤◌, drop, length}
use Rattle.dist_locked_book.specs.Closing.{receipts_of}
use Rattle.dist_locked_book.proofs.closing.is_kept.Given as goal

abbrev pub invariant-loop-place : goal.invariant-loop-place
invariant-loop-place l = (l.next ≤ length l.list)
    × ((l.list ≡ receipts_of l.seat.number 0 l.history) ↔ (drop l.next l.list ≡ receipts_of l.seat.number l.place (drop l.place l.history)))
