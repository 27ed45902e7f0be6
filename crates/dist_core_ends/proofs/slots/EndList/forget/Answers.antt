use Rattle.dist_core_ends.proofs.Forgotten.{kept-shown, kept-forgotten}
use Rattle.dist_core_ends.proofs.slots.EndList.forget.Goals as goal

pub invariant_of-self : goal.invariant_of-self
invariant_of-self c = rw c.forget.ensures (kept-forgotten c.args.below.0 c.self.inside.rows.items c.self.inside.slots.slots c.self.invariant)

pub returns : goal.returns
returns c = rw (c.forget.ensures, ← c.self.view_is) (kept-shown c.args.below.0 c.self.inside.rows.items c.self.inside.slots.slots c.self.invariant)
