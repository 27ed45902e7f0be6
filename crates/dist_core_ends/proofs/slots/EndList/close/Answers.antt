use Rattle.dist_core_ends.proofs.Words.{Some, ap, ◌∙◌, arith, claim_at}
use Rattle.dist_core_ends.proofs.Keeping.{long, has-slot, slot-shown, emptied-shown, emptied, finds-closed, closed-stays}
use Rattle.dist_core_ends.proofs.slots.EndList.close.Goals as goal

pub at-requires : goal.at-requires
at-requires c = omega (arith, c.requires.there, long c.self.inside.rows.items c.self.inside.slots.slots _ _ c.self.view_is)

pub empty-closed-requires : goal.empty-closed-requires
empty-closed-requires c = has-slot c.self.inside.rows.items c.self.inside.slots c.args.id.0 c.in-Slot.slot c.at.result c.self.invariant c.at.ensures c.in-Slot.is

pub invariant_of-self : goal.invariant_of-self
invariant_of-self c =
    rw c.close.ensures
    (emptied c.self.inside.rows.items c.self.inside.slots.slots c.empty-closed.new.slots.slots c.self.invariant c.args.id.0 c.in-Slot.slot c.args.why
    (c.at.ensures ∙ ap Some c.in-Slot.is) (c.empty-closed.ensures.empty.0) (c.empty-closed.ensures.empty.1))

pub returns-in-Slot-clause-ends : goal.returns-in-Slot-clause-ends
returns-in-Slot-clause-ends c =
    rw (c.close.ensures, ← c.self.view_is)
    (emptied-shown c.self.inside.rows.items c.self.inside.slots.slots c.empty-closed.new.slots.slots c.self.invariant c.args.id.0 c.in-Slot.slot c.args.why
    (c.at.ensures ∙ ap Some c.in-Slot.is) (c.empty-closed.ensures.empty.0))

pub returns-in-Slot-clause-was : goal.returns-in-Slot-clause-was
returns-in-Slot-clause-was c =
    rw (← c.self.view_is) (ap claim_at (c.empty-closed.ensures.was
    ∙ slot-shown c.self.inside.rows.items c.self.inside.slots.slots c.args.id.0 c.in-Slot.slot c.at.result c.self.invariant c.at.ensures c.in-Slot.is))

pub returns-in-Closed-clause-ends : goal.returns-in-Closed-clause-ends
returns-in-Closed-clause-ends c =
    let h = rw (← c.self.view_is) at c.requires.stays in
    rw (← c.self.view_is) (closed-stays c.self.inside.rows.items c.self.inside.slots.slots c.args.id.0 c.in-Closed.field-0 c.args.why c.at.result c.at.ensures c.in-Closed.is h)

pub returns-in-Closed-clause-was : goal.returns-in-Closed-clause-was
returns-in-Closed-clause-was c =
    rw (← c.self.view_is, finds-closed c.self.inside.rows.items c.self.inside.slots.slots c.args.id.0 c.in-Closed.field-0 c.at.result c.at.ensures c.in-Closed.is)
