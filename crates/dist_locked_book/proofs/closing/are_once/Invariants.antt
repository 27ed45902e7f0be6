use Rattle.std.proofs.Common.{◌≡◌, ◌<◌, ℕ, ◌==◌, count_by}
use Rattle.dist_locked_book.specs.History.{SeatState}
use Rattle.dist_locked_book.proofs.closing.are_once.Given as goal

abbrev pub invariant-loop-number : goal.invariant-loop-number
invariant-loop-number l = (k : ℕ) → k < l.number → count_by (λ (s : SeatState). s.number == k) l.seats ≡ 1
