use Rattle.std.proofs.{Common.◌∙◌, Common.ap, Common.ap₂, lemmas.Result.IfOk-weaker}
use Rattle.clap.specs.Words.{App, with_subcommand}
use Rattle.distnode.proofs.program.enact_program.Goals as goal

pub returns : goal.returns
returns c =
    IfOk-weaker c.subcommand.result _ _ (λ r h. h.shape c.new.ensures.local
    ∙ ap₂ with_subcommand c.bare.ensures (ap (λ (a : App). a.top) c.new.ensures.app)) c.subcommand.ensures
