use Rattle.std.proofs.Common.{refl, sym}
use Rattle.dist_locked_book.proofs.Closings.{not_true}
use Rattle.dist_locked_book.proofs.closing.close.Goals as goal

pub returns-then-not-are_all-clause-missing : goal.returns-then-not-are_all-clause-missing
returns-then-not-are_all-clause-missing c = λ _ a. not_true (c.if-not-are_all.ensures.1 (rw (c.seats.ensures, c.as_slice.ensures.value) a))

pub returns-then-not-are_kept-clause-absent : goal.returns-then-not-are_kept-clause-absent
returns-then-not-are_kept-clause-absent c = λ _. (
  rw (sym c.seats.ensures, sym c.as_slice.ensures.value) (c.if-not-are_all.ensures.0 refl),
  λ a. not_true (c.if-not-are_kept.ensures.1 (rw (c.seats-2.ensures, c.history.ensures.history, c.as_slice-2.ensures.value) a)),
)

pub returns-clause-seats : goal.returns-clause-seats
returns-clause-seats c = (
  rw (sym c.seats.ensures, sym c.as_slice.ensures.value) (c.if-not-are_all.ensures.0 refl),
  rw (sym c.seats-2.ensures, sym c.history.ensures.history, sym c.as_slice-2.ensures.value) (c.if-not-are_kept.ensures.0 refl),
)
