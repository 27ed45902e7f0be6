use Rattle.dist_script_play.proofs.Words.{drop, table_of, PutSoFar, rows_text}
use Rattle.dist_script_play.proofs.print.table.Given as goal
use Rattle.std.specs.FinMap as map

-- the lines of the rows that were looked at, and of those that are left, are all lines
abbrev pub invariant-loop-place : goal.invariant-loop-place
invariant-loop-place g l =
    let rows = map.entries (table_of (let n = l.node in n.ends)) in
    PutSoFar (rows_text l.node rows) (g.W.Write.contents l.fn.out) (g.W.Write.contents l.out) (rows_text l.node (drop l.place rows))
