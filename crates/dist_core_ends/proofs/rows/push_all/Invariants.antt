use Rattle.dist_core_ends.proofs.Words.{◌≡◌, ◌+◌, ◌≤◌, ◌++◌, length, take}
use Rattle.dist_core_ends.proofs.rows.push_all.Given as goal

abbrev pub invariant-loop-row : goal.invariant-loop-row
invariant-loop-row l = (l.past.items ≡ l.fn.past.items ++ take l.row-index l.rows) × (length l.rows ≤ l.past.room + l.row-index)
