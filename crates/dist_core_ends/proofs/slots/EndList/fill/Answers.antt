use Rattle.dist_core_ends.proofs.Words.{◌≡◌, ℕ, true, List, slice_get, Some, sym, ap, ◌∙◌, arith, false≢true, StaysClosed, is_open, End, Why}
use Rattle.dist_core_ends.proofs.Keeping.{long, has-slot, refilled-shown, refilled, finds-closed, same-cause}
use Rattle.dist_core_ends.proofs.slots.EndList.fill.Goals as goal
use Rattle.dist_core_ends.specs.declared.known.End.TheVariants as ends

pub at-requires : goal.at-requires
at-requires c = omega (arith, c.requires.there, long c.self.inside.rows.items c.self.inside.slots.slots _ _ c.self.view_is)

pub refill-requires : goal.refill-requires
refill-requires c = has-slot c.self.inside.rows.items c.self.inside.slots c.args.id.0 c.in-Slot.slot c.at.result c.self.invariant c.at.ensures c.in-Slot.is

pub invariant_of-self : goal.invariant_of-self
invariant_of-self c =
    refilled c.self.inside.rows.items c.self.inside.slots.slots c.refill.new.slots.slots c.self.invariant c.args.id.0 c.in-Slot.slot c.args.end
    (c.at.ensures ∙ ap Some c.in-Slot.is) (c.refill.ensures.0) (c.refill.ensures.1) c.requires.open_

pub returns-in-Slot : goal.returns-in-Slot
returns-in-Slot c =
    rw (← c.self.view_is)
    (refilled-shown c.self.inside.rows.items c.self.inside.slots.slots c.refill.new.slots.slots c.self.invariant c.args.id.0 c.in-Slot.slot c.args.end
    (c.at.ensures ∙ ap Some c.in-Slot.is) (c.refill.ensures.0))

-- a closed end does not become an open one
shut : (es : List End) (i : ℕ) (w : Why) (e : End) → slice_get es i ≡ Some (ends.Closed w) → StaysClosed (slice_get es i) e → is_open e ≡ true → ⊥
shut es i w e at s h = false≢true (sym (ap is_open (same-cause es i w e at s)) ∙ h)

pub returns-in_default : goal.returns-in_default
returns-in_default c =
    let rows = c.self.inside.rows.items in
    let slots = c.self.inside.slots.slots in
    let h = rw (← c.self.view_is) at c.requires.stays in
    absurd (shut _ c.args.id.0 c.in_default.field-0 c.args.end (finds-closed rows slots c.args.id.0 c.in_default.field-0 c.at.result c.at.ensures c.in_default.is) h c.requires.open_)
