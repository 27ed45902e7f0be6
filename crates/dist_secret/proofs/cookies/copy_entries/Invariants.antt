-- What was copied and what is left are together all cookies.
use Rattle.std.proofs.Common.{◌≡◌, ◌++◌}
use Rattle.dist_secret.proofs.cookies.copy_entries.Given as goal

abbrev pub invariant-loop-row : goal.invariant-loop-row
invariant-loop-row l = l.copy.entries ++ l.row-iterator ≡ l.cookies.entries
