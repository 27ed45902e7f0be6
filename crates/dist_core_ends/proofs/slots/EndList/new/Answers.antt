use Rattle.dist_core_ends.proofs.Keeping.{none-kept}
use Rattle.dist_core_ends.proofs.slots.EndList.new.Goals as goal

pub invariant_of-result : goal.invariant_of-result
invariant_of-result c = none-kept c.new.result.items c.new-2.result.slots c.new.ensures c.new-2.ensures.empty
