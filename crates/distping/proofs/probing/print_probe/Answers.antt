use Rattle.std.proofs.Common.{ap}
use Rattle.distping.proofs.Halves.{result_comes}
use Rattle.distping.proofs.probing.print_probe.Goals as goal

pub returns-clause-comes : goal.returns-clause-comes
returns-clause-comes g c = result_comes c.make_dial-dial.result _ _ c.make_dial-dial.ensures.node c.make_dial-dial.ensures.cookie
    c.dial_and_print.result _ (ap (λ l. l.quiet) c.make_dial-dial.ensures.lines) c.dial_and_print.ensures.node c.dial_and_print.ensures.shows
