use Rattle.dist_core_ends.proofs.Words.{◌≡◌, ◌<◌, List, length, nat_eq, slice_get, Some, None, sym, ap, ◌∙◌, arith, rules, get, RowList, all_causes, Why}
use Rattle.dist_core_ends.proofs.Places.{rows-length, rows-row, rows-cause, all-length}
use Rattle.dist_core_ends.proofs.past_rows.PastRows.at.Goals as goal

pub cause_at-requires : goal.cause_at-requires
cause_at-requires c =
    let b = c.self.inside.base in
    let ws = c.self.inside.causes.items in
    omega (arith, ap length c.deref.ensures.value, c.requires, ap (λ (r : RowList). length r.items) c.self.view_is, rows-length (get nat_eq c.self.inside.places) 0 (all_causes b ws), all-length b ws)

pub returns-in-Some : goal.returns-in-Some
returns-in-Some c =
    let f = get nat_eq c.self.inside.places in
    let ws = all_causes c.self.inside.base c.self.inside.causes.items in
    let within : c.args.i < length ws = omega (arith, c.requires, ap (λ (r : RowList). length r.items) c.self.view_is, rows-length f 0 ws) in
    let there : f c.args.i ≡ Some c.in-Some.row.now = search rules in
    ap (λ (r : RowList). slice_get r.items c.args.i) (sym c.self.view_is) ∙ rows-row f ws c.args.i c.in-Some.row.now within there

pub returns-in-None : goal.returns-in-None
returns-in-None c =
    let f = get nat_eq c.self.inside.places in
    let b = c.self.inside.base in
    let there : f c.args.i ≡ None = search rules in
    let at : slice_get (all_causes b c.self.inside.causes.items) c.args.i ≡ Some c.cause_at.result = ap (λ (xs : List Why). slice_get (all_causes b xs) c.args.i) (sym c.deref.ensures.value) ∙ c.cause_at.ensures in
    ap (λ (r : RowList). slice_get r.items c.args.i) (sym c.self.view_is) ∙ rows-cause f (all_causes b c.self.inside.causes.items) c.args.i c.cause_at.result at there
