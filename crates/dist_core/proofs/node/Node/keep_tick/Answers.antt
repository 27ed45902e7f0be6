use Rattle.dist_core.proofs.Words.{◌+◌, Ok, sym, ap, ◌∙◌, NodeState}
use Rattle.dist_core.proofs.node.Node.keep_tick.Goals as goal

pub returns : goal.returns
returns g c =
    let r = c.in_ok-reply.reply in
    (r, c.in-Ok.ensures.kept, c.in_ok-reply.ensures.ok ∙ ap (λ (m : NodeState). Ok (r, record { setup = m.setup; steps = m.steps + 1; ends = m.ends })) (sym c.self.view_is))
