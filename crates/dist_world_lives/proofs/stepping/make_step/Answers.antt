use Rattle.dist_world_model.proofs.Words.{Reply, ◌≡◌, ◌++◌, Ok, sym, ap, ◌∙◌}
use Rattle.dist_world_lives.specs.Stepping.{conns_with, undelivered_on}
use Rattle.dist_world_lives.proofs.Places.{joined_on}
use Rattle.dist_world_lives.proofs.stepping.make_step.Goals as goal

pub returns-clause-ok : goal.returns-clause-ok
returns-clause-ok c =
    let made = c.in_ok-reply.ensures.step in
    let cs = c.args.conns.now in
    let reply : Reply = c.in_ok-reply.field-0.reply in
    let text : c.in_ok-reply.field-0.undelivered ≡ undelivered_on cs c.args.wire ++ reply.say =
    made.1.1 ∙ (λ i. c.undelivered_on.ensures i ++ (let r : Reply = sym made.1.0 i in r.say)) in (
      made.2 ∙ ap (λ (r : Reply). Ok (r, c.step_kept.new.self)) (sym made.1.0),
      c.put_undelivered.ensures ∙ ap (conns_with cs c.args.wire) text ∙ joined_on cs c.args.wire reply.say,
    )
