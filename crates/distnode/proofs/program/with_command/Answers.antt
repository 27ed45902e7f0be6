use Rattle.std.proofs.{Common.◌≡◌, Common.◌∙◌, Common.ap, lemmas.Result.IfOk-at_ok, lemmas.Result.IfOk-weaker}
use Rattle.clap.specs.Words.{App, app_of, with_subcommand}
use Rattle.distnode.proofs.Rows.{third_off}
use Rattle.distnode.proofs.program.with_command.Goals as goal

pub returns-in-Ok : goal.returns-in-Ok
returns-in-Ok c = λ app plain is.
    let command_is : app_of c.in-Ok.command ≡ app = IfOk-at_ok (λ k. app_of k ≡ app) c.in-Ok.is is in
    IfOk-weaker c.subcommand.result _ _ (λ r h. h.shape (third_off _ _ _ _ (ap (λ (a : App). a.top.is_plain) command_is ∙ plain))
    ∙ ap (λ (a : App). with_subcommand (app_of c.args.program) a.top) command_is) c.subcommand.ensures
