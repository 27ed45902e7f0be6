use Rattle.dist_core.proofs.Words.{subst, loss_reply, Reply}
use Rattle.dist_core.proofs.node.Node.keep_loss.Goals as goal

pub returns-clause-step : goal.returns-clause-step
returns-clause-step g c = λ fresh.
    let P : Reply → Type 0 = λ r. g.K.Keeper.keeps c.args.keeper.now r c.in-Ok.kept in
    (loss_reply c.args.id c.args.why, subst P c.in_ok-reply.ensures.is c.in-Ok.ensures.kept, c.in_ok-lose.ensures.ok fresh)
