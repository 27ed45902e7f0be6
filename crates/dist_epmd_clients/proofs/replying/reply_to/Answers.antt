use Rattle.std.proofs.Common.{◌∙◌, ap, sym, subst}
use Rattle.dist_epmd.specs.Registrations.{Registrations, after_closed}
use Rattle.dist_epmd_clients.proofs.{Words.Keeps, Standings.keeps_back}
use Rattle.dist_epmd_clients.proofs.replying.reply_to.Goals as goal

pub returns-in_default-clause-err : goal.returns-in_default-clause-err
returns-in_default-clause-err c =
    subst (λ (b : Registrations). Keeps c.args.registry.now b)
    (sym (c.closed.ensures ∙ ap (after_closed c.args.conn) c.in_ok-answer.ensures.after))
    (keeps_back c.args.conn c.args.request.now c.args.registry.now c.requires)
