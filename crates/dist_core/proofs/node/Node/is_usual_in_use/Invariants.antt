-- Any entry that is up under the usual cookie is among those that are left.
use Rattle.dist_core.proofs.Words.{◌≡◌, drop, list_any, table_of, has_usual}
use Rattle.dist_core.proofs.node.Node.is_usual_in_use.Given as goal
use Rattle.std.specs.FinMap as map

abbrev pub invariant-loop-i : goal.invariant-loop-i
invariant-loop-i l =
    let rows = map.entries (table_of l.self.ends) in
    list_any (has_usual l.self.setup) (drop l.i rows) ≡ list_any (has_usual l.self.setup) rows
