use Rattle.std.specs.Option.{option_copied}
use Rattle.dist_script_play.specs.Worlds.{peer_line}
use Rattle.dist_script_play.proofs.{Words.Appends, Words.subst, Words.arith, Words.table_of, Outside.rows_go_on, Outside.rows_end}
use Rattle.dist_script_play.proofs.fooled.print_table.Goals as goal
use Rattle.std.specs.FinMap as map

pub loop-row-preserved : goal.loop-row-preserved
loop-row-preserved g c =
    let n = c.args.node.now in
    let t = c.in_ok-any.ensures in
    rows_go_on c.args.world.now c.args.place n.setup.name (map.entries (table_of n.ends)) c.loop-row.row _ _ _ _ _ _ c.loop-row.invariant
    (omega (arith, c.loop-row-test.true, c.entries-row-end.ensures, map.len-entries (table_of n.ends))) c.fooled_peer-peer.ensures t.0
    (subst (λ p. Appends (g.W.Write.contents c.loop-row.out) (g.W.Write.contents c.print_peer.new.out) (peer_line p (option_copied c.fooled_peer-peer.result))) c.name.ensures t.1)

pub returns : goal.returns
returns g c =
    let n = c.args.node.now in
    rows_end c.args.world.now c.args.place n.setup.name (map.entries (table_of n.ends)) c.loop-row.row _ _ _
    (omega (arith, c.loop-row-test.false, c.entries-row-end.ensures, map.len-entries (table_of n.ends))) c.loop-row.invariant
