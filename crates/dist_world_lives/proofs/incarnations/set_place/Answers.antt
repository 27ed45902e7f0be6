use Rattle.std.proofs.Common.{ℕ, Option, arith}
use Rattle.dist_world_lives.proofs.Edits.{at_set, at_past}
use Rattle.dist_world_lives.proofs.incarnations.set_place.Goals as goal

pub returns-then-node-len : goal.returns-then-node-len
returns-then-node-len c = at_set (λ (old : Option ℕ). c.args.place) c.args.index.now.items c.args.node c.index_mut.result.now (omega arith) c.index_mut.ensures.value

pub returns-else-node-len : goal.returns-else-node-len
returns-else-node-len c = at_past (λ (old : Option ℕ). c.args.place) c.args.index.now.items c.args.node (omega arith)
