-- The lines written and the lines of the rows that are left are together all lines.
use Rattle.dist_epmd.proofs.Words.{◌≡◌, ◌++◌, flat_map, values, line_of}
use Rattle.dist_epmd.proofs.rows.push_lines.Given as goal

abbrev pub invariant-loop-row : goal.invariant-loop-row
invariant-loop-row l = l.bytes.items ++ flat_map line_of l.row-iterator ≡ l.fn.bytes.items ++ flat_map line_of (values l.rows)
