use Rattle.std.proofs.Common.{◌∙◌, sym, subst}
use Rattle.dist_script.specs.Texts.{PutsFront}
use Rattle.distnode.specs.Fault.{fault_line}
use Rattle.distnode.proofs.RunStopped.{is_bad}
use Rattle.distnode.proofs.run.run_nodes.Goals as goal

-- the fault that was reported
pub returns-in-Err-clause-ended : goal.returns-in-Err-clause-ended
returns-in-Err-clause-ended g c =
    λ one. record { cause = c.in-Err.fault; stops = c.in-Err.ensures.stopped; status_is = sym c.report_to.ensures.status ∙ one; line = c.report_to.ensures.line }

-- with status 2 it is a bad nodes file
pub returns-in-Err-clause-bad : goal.returns-in-Err-clause-bad
returns-in-Err-clause-bad g c =
    λ two. (is_bad c.args.text.now (g.W.Write.contents c.args.out.now) (g.W.Write.contents c.perform.new.out) c.in-Err.fault c.in-Err.ensures.stopped (sym c.report_to.ensures.status ∙ two)).1

pub returns-in-Err-clause-bad_out : goal.returns-in-Err-clause-bad_out
returns-in-Err-clause-bad_out g c =
    λ two. (is_bad c.args.text.now (g.W.Write.contents c.args.out.now) (g.W.Write.contents c.perform.new.out) c.in-Err.fault c.in-Err.ensures.stopped (sym c.report_to.ensures.status ∙ two)).2

pub returns-in-Err-clause-bad_line : goal.returns-in-Err-clause-bad_line
returns-in-Err-clause-bad_line g c =
    λ two. subst (λ f. PutsFront (fault_line f) (g.E.Write.contents c.args.err.now) (g.E.Write.contents c.report_to.new.err))
    (is_bad c.args.text.now (g.W.Write.contents c.args.out.now) (g.W.Write.contents c.perform.new.out) c.in-Err.fault c.in-Err.ensures.stopped (sym c.report_to.ensures.status ∙ two)).0
    c.report_to.ensures.line
