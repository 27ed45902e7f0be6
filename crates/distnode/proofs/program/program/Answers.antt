use Rattle.std.proofs.{Common.◌∙◌, Common.ap, Common.refl, lemmas.Result.IfOk-at_ok, lemmas.Result.IfOk-weaker}
use Rattle.clap.specs.Words.{App, with_subcommand}
use Rattle.distnode.specs.CommandLine.{cookie_app, names_app, run_app}
use Rattle.distnode.proofs.program.program.Goals as goal

pub returns : goal.returns
returns c =
    let cookie_is = IfOk-at_ok _ c.in_ok-cookie.was (c.with_command.ensures cookie_app refl c.cookie_command.ensures)
    ∙ ap (λ (a : App). with_subcommand a cookie_app.top) c.in_ok-enact_program.ensures in
    let names_is = IfOk-at_ok _ c.in_ok-names.was (c.with_command-2.ensures names_app refl c.names_command.ensures)
    ∙ ap (λ (a : App). with_subcommand a names_app.top) cookie_is in
    IfOk-weaker c.with_command-3.result _ _ (λ r h. h
    ∙ ap (λ (a : App). with_subcommand a run_app.top) names_is) (c.with_command-3.ensures run_app refl c.run_command.ensures)
