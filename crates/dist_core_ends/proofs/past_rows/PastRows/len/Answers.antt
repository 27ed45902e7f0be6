use Rattle.dist_core_ends.proofs.Words.{length, nat_eq, ap, arith, get, RowList, all_causes}
use Rattle.dist_core_ends.proofs.Places.{rows-length, all-length}
use Rattle.dist_core_ends.proofs.past_rows.PastRows.len.Goals as goal

pub returns-clause-len : goal.returns-clause-len
returns-clause-len c =
    let b = c.self.inside.base in
    let ws = c.self.inside.causes.items in
    omega (arith, c.len.ensures, ap (λ (r : RowList). length r.items) c.self.view_is, rows-length (get nat_eq c.self.inside.places) 0 (all_causes b ws), all-length b ws)
