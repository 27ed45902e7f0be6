use Rattle.dist_core_ends.proofs.{Words.sym, Words.◌∙◌, Keeping.long}
use Rattle.dist_core_ends.proofs.slots.EndList.len.Goals as goal

pub returns-clause-len : goal.returns-clause-len
returns-clause-len c = c.len.ensures.len ∙ sym (long c.self.inside.rows.items c.self.inside.slots.slots _ _ c.self.view_is)
