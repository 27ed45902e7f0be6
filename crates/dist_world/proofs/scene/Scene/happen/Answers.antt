use Rattle.std.proofs.Common.{rules}
use Rattle.dist_world.proofs.scene.Scene.happen.Goals as goal

pub overflow_add-self : goal.overflow_add-self
overflow_add-self c = search rules

pub returns-then-applies : goal.returns-then-applies
returns-then-applies c = search rules
