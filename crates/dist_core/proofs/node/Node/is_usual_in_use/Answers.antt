use Rattle.dist_core.proofs.Words.{sym, ◌∙◌, arith, at_drop_all, len-entries, list_any, table_of, has_usual}
use Rattle.dist_core.proofs.UsualCookies.{found-at, none-at}
use Rattle.dist_core.proofs.node.Node.is_usual_in_use.Goals as goal
use Rattle.std.specs.FinMap as map

pub returns-then-is_usual_at : goal.returns-then-is_usual_at
returns-then-is_usual_at c =
    let n = c.args.self.now in
    sym (found-at n.setup (map.entries (table_of n.ends)) c.loop-i.i (sym c.is_usual_at.ensures ∙ c.if-is_usual_at.true)) ∙ c.loop-i.invariant

pub loop-i-preserved : goal.loop-i-preserved
loop-i-preserved c =
    let n = c.args.self.now in
    sym (none-at n.setup (map.entries (table_of n.ends)) c.loop-i.i (sym c.is_usual_at.ensures ∙ c.if-is_usual_at.false)) ∙ c.loop-i.invariant

pub returns : goal.returns
returns c =
    let n = c.args.self.now in
    let rows = map.entries (table_of n.ends) in
    sym (at_drop_all (list_any (has_usual n.setup)) rows c.loop-i.i (omega (arith, len-entries (table_of n.ends), c.entries-i-end.ensures, c.loop-i-test.false))) ∙ c.loop-i.invariant
