use Rattle.std.proofs.Common.{◌∙◌, IfOk, string_bytes, subst}
use Rattle.distping.specs.Halves.{ResultComes}
use Rattle.distping.proofs.together.make_reply.Goals as goal

pub returns-clause-comes : goal.returns-clause-comes
returns-clause-comes g c = λ it is.
    let cookie = c.args.context.now.cookie in
    let json = c.args.context.now.wanted.now.choices.json in
    subst (λ r. IfOk r (λ x. ResultComes cookie json x.half (string_bytes x.text))) is
    (subst (λ quiet. IfOk c.print_probe-found.result (λ x. ResultComes cookie quiet x.half (string_bytes x.text)))
    (c.on_page.ensures ∙ c.screen.ensures) c.print_probe-found.ensures.comes)
