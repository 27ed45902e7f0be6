use Rattle.dist_core_ends.proofs.Words.{◌≡◌, rows_forgotten}
use Rattle.dist_core_ends.proofs.rows.forget_first.Given as goal

abbrev pub invariant-loop-i : goal.invariant-loop-i
invariant-loop-i l = l.rows.items ≡ rows_forgotten l.i l.fn.rows.items
