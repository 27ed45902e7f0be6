use Rattle.dist_core_ends.proofs.{Words.arith, Keeping.long, Keeping.pushed, Keeping.pushed-shown}
use Rattle.dist_core_ends.proofs.slots.EndList.push.Goals as goal

pub invariant_of-self : goal.invariant_of-self
invariant_of-self c =
    rw c.push.ensures (pushed c.self.inside.rows.items c.self.inside.slots.slots c.keep-row.new.slots.slots c.args.end c.keep-row.result c.self.invariant c.keep-row.ensures)

pub push-requires-clause-few : goal.push-requires-clause-few
push-requires-clause-few c = omega (arith, c.requires.few, long c.self.inside.rows.items c.self.inside.slots.slots _ _ c.self.view_is)

pub returns : goal.returns
returns c =
    rw (c.push.ensures, ← c.self.view_is)
    (pushed-shown c.self.inside.rows.items c.self.inside.slots.slots c.keep-row.new.slots.slots c.args.end c.keep-row.result c.self.invariant c.keep-row.ensures)
