use Rattle.distnode.specs.RunStopped.{StopsRun}
use Rattle.distnode.proofs.RunStopped.{at_err}
use Rattle.distnode.proofs.run.perform.Goals as goal

-- there was no plan
pub returns-in_err-plan-clause-stopped : goal.returns-in_err-plan-clause-stopped
returns-in_err-plan-clause-stopped g c =
    let out = g.W.Write.contents c.args.out.now in
    at_err (StopsRun c.args.text.now out out) c.from_residual.result c.in_err-plan.field-0.0 c.from_residual.ensures.1 (c.in_err-plan.ensures.stopped out)
