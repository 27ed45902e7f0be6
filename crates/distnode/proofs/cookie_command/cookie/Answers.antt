use Rattle.std.proofs.Common.{◌∙◌, sym}
use Rattle.distnode.proofs.cookie_command.cookie.Goals as goal

-- the fault that was reported
pub returns-in-Err-clause-fault : goal.returns-in-Err-clause-fault
returns-in-Err-clause-fault g c =
    λ one. record { cause = c.in-Err.fault; stops = c.in-Err.ensures.stopped; status_is = sym c.report_to.ensures.status ∙ one; line = c.report_to.ensures.line }
