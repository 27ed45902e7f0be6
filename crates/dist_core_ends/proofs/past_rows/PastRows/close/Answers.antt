use Rattle.dist_core_ends.proofs.Words.{length, set, nat_eq, slice_get, Some, sym, ap, ◌∙◌, subst, arith, Updates, get, IsSlot, RowList, all_causes, rows_from}
use Rattle.dist_core_ends.proofs.Places.{rows-length, rows-shut, rows-placed, all-length, all-set, place-of-slot, slot-within, not-refused, done}
use Rattle.dist_core_ends.proofs.past_rows.PastRows.close.Goals as goal
use Rattle.dist_core_ends.specs.declared.slots.EndPlace.TheVariants as row

pub unwrap-requires : goal.unwrap-requires
unwrap-requires c =
    let f = get nat_eq c.self.inside.places in
    let all = all_causes c.self.inside.base c.self.inside.causes.items in
    let P : RowList → Type 0 = λ r. IsSlot (slice_get r.items c.args.i) in
    let slot : IsSlot (slice_get (rows_from f 0 all) c.args.i) = subst P (sym c.self.view_is) c.requires in
    not-refused c.insert-put.result (f c.args.i) c.insert-put.ensures.absent (place-of-slot f all c.args.i (omega (arith, slot-within (rows_from f 0 all) c.args.i slot, rows-length f 0 all)) slot)

pub returns-then-i-self : goal.returns-then-i-self
returns-then-i-self c =
    let f = get nat_eq c.self.inside.places in
    let g = get nat_eq c.insert-put.new.self in
    let all = all_causes c.self.inside.base c.self.inside.causes.items in
    let u = done (Updates nat_eq c.self.inside.places c.insert-put.new.self c.args.i (Some (row.Closed c.args.why))) c.insert-put.result c.unwrap.result c.unwrap.ensures c.insert-put.ensures.updates in
    rows-placed f g all c.args.i (row.Closed c.args.why) (u.1) (u.2) ∙ ap (λ (r : RowList). set r.items c.args.i (row.Closed c.args.why)) c.self.view_is

pub index_mut-requires : goal.index_mut-requires
index_mut-requires c =
    let f = get nat_eq c.self.inside.places in
    let b = c.self.inside.base in
    let ws = c.self.inside.causes.items in
    omega (arith, c.if-i-self.false, slot-within c.args.self.now.items c.args.i c.requires, ap (λ (r : RowList). length r.items) c.self.view_is, rows-length f 0 (all_causes b ws), all-length b ws)

pub returns-else-i-self : goal.returns-else-i-self
returns-else-i-self c =
    let f = get nat_eq c.self.inside.places in
    let g = get nat_eq c.remove.new.self in
    let b = c.self.inside.base in
    let ws = c.self.inside.causes.items in
    let u = c.remove.ensures.updates in
    ap (rows_from g 0) (all-set b ws c.args.i c.args.why c.if-i-self.false)
    ∙ rows-shut f g (all_causes b ws) c.args.i c.args.why (u.1) (u.2)
    ∙ ap (λ (r : RowList). set r.items c.args.i (row.Closed c.args.why)) c.self.view_is
