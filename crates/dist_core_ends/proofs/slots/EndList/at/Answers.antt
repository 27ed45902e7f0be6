use Rattle.dist_core_ends.proofs.{Words.arith, Words.slice_get_past, Keeping.long, Keeping.has-slot, Keeping.finds-slot, Keeping.finds-closed}
use Rattle.dist_core_ends.proofs.slots.EndList.at.Goals as goal

pub returns-then-len-i : goal.returns-then-len-i
returns-then-len-i c =
    slice_get_past c.args.self.now.items c.args.id.0 (omega (arith, long c.self.inside.rows.items c.self.inside.slots.slots _ _ c.self.view_is, c.if-len-i.true, c.len.ensures.len))

pub index-requires : goal.index-requires
index-requires c = has-slot c.self.inside.rows.items c.self.inside.slots c.args.id.0 c.in-Slot.slot c.at.result c.self.invariant c.at.ensures c.in-Slot.is

pub returns-in-Slot : goal.returns-in-Slot
returns-in-Slot c =
    let rows = c.self.inside.rows.items in
    let slots = c.self.inside.slots.slots in
    rw (← c.self.view_is) (finds-slot rows slots c.args.id.0 c.in-Slot.slot c.at.result c.index.result.now c.self.invariant c.at.ensures c.in-Slot.is c.index.ensures)

pub returns-in-Closed : goal.returns-in-Closed
returns-in-Closed c =
    rw (← c.self.view_is) (finds-closed c.self.inside.rows.items c.self.inside.slots.slots c.args.id.0 c.in-Closed.why c.at.result c.at.ensures c.in-Closed.is)
