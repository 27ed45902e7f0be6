-- The report stands behind the heading.
use Rattle.std.proofs.lemmas.Result.{IfOk-weaker}
use Rattle.distcheck.proofs.Printed.{reported_behind}
use Rattle.distcheck.proofs.check.Goals as goal

pub returns : goal.returns
returns g c = IfOk-weaker c.put_report.result _ _ (λ status r. reported_behind _ _ _ _ _ _ status c.in_ok-print.ensures r) (c.put_report.ensures c.in_ok-played.ensures.confirmed)
