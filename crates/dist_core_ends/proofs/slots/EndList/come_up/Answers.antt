use Rattle.dist_core_ends.proofs.Words.{Some, refl, ap, ◌∙◌, arith, slice_get_within}
use Rattle.dist_core_ends.proofs.Keeping.{long, refilled-shown, refilled, slot-shown, not-closed}
use Rattle.dist_core_ends.proofs.slots.EndList.come_up.Goals as goal
use Rattle.dist_core_ends.specs.declared.known.End.TheVariants as ends

pub at-requires : goal.at-requires
at-requires c =
    let h = c.requires in
    omega (arith, slice_get_within c.args.self.now.items c.args.id.0 _ h.1, long c.self.inside.rows.items c.self.inside.slots.slots _ _ c.self.view_is)

pub returns-in-Slot : goal.returns-in-Slot
returns-in-Slot c =
    let rows = c.self.inside.rows.items in
    let slots = c.self.inside.slots.slots in
    let h = rw (← c.self.view_is) at c.requires in
    let put = c.complete.ensures h.0 (slot-shown rows slots c.args.id.0 c.in-Slot.slot c.at.result c.self.invariant c.at.ensures c.in-Slot.is ∙ h.1) h.2 in
    rw (← c.self.view_is) (refilled-shown rows slots c.complete.new.slots.slots c.self.invariant c.args.id.0 c.in-Slot.slot (ends.Up c.args.kept.now)
    (c.at.ensures ∙ ap Some c.in-Slot.is) (put.0))

pub invariant_of-self : goal.invariant_of-self
invariant_of-self c =
    let rows = c.self.inside.rows.items in
    let slots = c.self.inside.slots.slots in
    let h = rw (← c.self.view_is) at c.requires in
    let put = c.complete.ensures h.0 (slot-shown rows slots c.args.id.0 c.in-Slot.slot c.at.result c.self.invariant c.at.ensures c.in-Slot.is ∙ h.1) h.2 in
    refilled rows slots c.complete.new.slots.slots c.self.invariant c.args.id.0 c.in-Slot.slot (ends.Up c.args.kept.now) (c.at.ensures ∙ ap Some c.in-Slot.is) (put.0) (put.1) refl

pub returns-in_default : goal.returns-in_default
returns-in_default c =
    let h = rw (← c.self.view_is) at c.requires in
    absurd (not-closed c.self.inside.rows.items c.self.inside.slots.slots c.args.id.0 h.0 c.in_default.field-0 c.at.result h.1 c.at.ensures c.in_default.is)
