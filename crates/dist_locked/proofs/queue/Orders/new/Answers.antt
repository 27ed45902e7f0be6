use Rattle.std.proofs.Common.{ap, ◌∙◌, rules}
use Rattle.dist_locked.proofs.Moves.{begins, cuts_first, cuts_second}
use Rattle.dist_locked.proofs.queue.Orders.new.Goals as goal

pub ruled-requires-clause-rule : goal.ruled-requires-clause-rule
ruled-requires-clause-rule c = begins

pub another-first-requires-clause-rule : goal.another-first-requires-clause-rule
another-first-requires-clause-rule c = cuts_first _ _ (ap (λ v. v.first) c.in_ok-queue.ensures.3)

pub another-second-requires-clause-rule : goal.another-second-requires-clause-rule
another-second-requires-clause-rule c = cuts_second _ _ (ap (λ v. v.second) c.another-first.ensures.rule.0 ∙ ap (λ v. v.second) c.in_ok-queue.ensures.3)

pub returns-clause-workers : goal.returns-clause-workers
returns-clause-workers c = search rules
