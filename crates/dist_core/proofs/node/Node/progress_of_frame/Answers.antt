use Rattle.dist_core.proofs.Words.{Bool, cond, Ok, Err, Option, sym, ap, ◌∙◌, read, Side, framed_from, message_effect, Effect}
use Rattle.dist_core.proofs.node.Node.progress_of_frame.Goals as goal
use Rattle.dist_core_ends.specs.declared.known.End.TheVariants as ends
use Rattle.dist_core.specs.declared.step_error.StepError.TheVariants as error

pub returns-clause-effect : goal.returns-clause-effect
returns-clause-effect c id =
    let n = c.args.self.now in
    let a = c.args.attempt.now in
    let f = message_effect n id c.args.fresh (ends.Attempt a) (read c.in-Some.side c.args.body.now) in
    ap (λ (o : Option Side). framed_from n id c.args.fresh c.args.body.now (ends.Attempt a) o) (sym c.sender_of_phase.ensures ∙ c.in-Some.is)
    ∙ ap (λ (b : Bool). cond b (Err error.Spent) (Ok f)) (sym c.is_spent.ensures.is ∙ c.if-is_spent.false)
    ∙ ap (λ (g : Effect). Ok g) (sym (c.in-Ok.ensures.effect id))
