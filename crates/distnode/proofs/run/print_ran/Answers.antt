use Rattle.distnode.proofs.Printing.{of_run}
use Rattle.distnode.proofs.run.print_ran.Goals as goal

pub returns : goal.returns
returns g c =
    let ran = c.args.ran.now in
    of_run c.in_ok-refusal.refusal ran.faults.items c.as_slice.result.now ran.closed.items c.as_slice-2.result.now
    (g.W.Write.contents c.args.out.now) (g.W.Write.contents c.print_faults.new.out) (g.W.Write.contents c.print_audit.new.out)
    c.as_slice.ensures.value c.as_slice-2.ensures.value c.in-Ok.ensures c.in_ok-refusal.ensures
