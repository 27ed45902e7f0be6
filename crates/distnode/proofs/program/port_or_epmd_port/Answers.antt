use Rattle.std.proofs.{Common.◌∙◌, lemmas.Result.IfOk-weaker}
use Rattle.distnode.proofs.Aliases.{aliased, still_local}
use Rattle.distnode.proofs.program.port_or_epmd_port.Goals as goal

pub returns-clause-rule : goal.returns-clause-rule
returns-clause-rule c = IfOk-weaker c.alias.result _ _ (λ a adds. aliased c.port.result a _ _ adds c.port.ensures.rule) c.alias.ensures

pub returns-clause-local : goal.returns-clause-local
returns-clause-local c = IfOk-weaker c.alias.result _ _ (λ a adds. still_local c.port.result a _ adds ∙ c.port.ensures.local) c.alias.ensures
