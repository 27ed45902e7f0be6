use Rattle.dist_script_play.proofs.Words.{List, OnOk, subst, arith, Appends, Name, Entry, table_of, NodeState, more_put}
use Rattle.dist_script_play.proofs.Printing.{next_row, all_rows, no_rows}
use Rattle.dist_script_play.proofs.print.table.Goals as goal
use Rattle.std.specs.FinMap as map

abbrev rows_of : NodeState → List (Name × Entry)
rows_of n = map.entries (table_of n.ends)

pub returns-then-entries-eq0 : goal.returns-then-entries-eq0
returns-then-entries-eq0 g c =
    let n = c.args.node.now in
    subst (λ t. OnOk c.put_bytes.result (Appends (g.W.Write.contents c.args.out.now) (g.W.Write.contents c.put_bytes.new.out) t)) (no_rows n (rows_of n) (omega (arith, c.entries.ensures, map.len-entries (table_of n.ends)))) c.put_bytes.ensures.text

pub loop-place-preserved : goal.loop-place-preserved
loop-place-preserved g c =
    let n = c.args.node.now in
    more_put _ _ _ _ _ c.loop-place.invariant _ _ c.in_ok-write_nth_row.ensures (next_row n (rows_of n) c.loop-place.place)

pub returns : goal.returns
returns g c =
    let n = c.args.node.now in
    all_rows _ _ n (rows_of n) c.loop-place.place (omega (arith, c.entries.ensures, map.len-entries (table_of n.ends))) (omega (arith, c.entries-place-end.ensures, map.len-entries (table_of n.ends))) c.loop-place.invariant
