use Rattle.dist_core_ends.proofs.Words.{length, ap, ◌∙◌, arith, end_id}
use Rattle.dist_core_ends.proofs.ends.Ends.next_id.Goals as goal

pub overflow_cast-result : goal.overflow_cast-result
overflow_cast-result c = omega (arith, c.len.ensures.len, ap length c.self.view_is, c.requires)

pub returns : goal.returns
returns c = ap end_id (c.len.ensures.len ∙ ap length c.self.view_is)
