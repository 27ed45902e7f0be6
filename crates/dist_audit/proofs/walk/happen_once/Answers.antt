use Rattle.std.proofs.Common.{◌↔◌, IsTrue, IfOk, subst, List}
use Rattle.dist_audit.specs.Audit.{AllApply}
use Rattle.dist_world_model.specs.declared.happening.Happening.{Happening}
use Rattle.dist_audit.proofs.walk.happen_once.Goals as goal

pub returns-clause-all : goal.returns-clause-all
returns-clause-all c =
    subst (λ (t : List Happening). IfOk c.happen.result (λ b. IsTrue b ↔ AllApply t c.args.world.now)) c.from_ref.ensures.value c.happen.ensures.all
