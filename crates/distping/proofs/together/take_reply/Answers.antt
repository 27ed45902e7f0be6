use Rattle.std.proofs.Common.{rules, string_bytes, subst}
use Rattle.distping_report.specs.Sinks.{Prints}
use Rattle.distping.proofs.Printing.{one_more}
use Rattle.distping.proofs.together.take_reply.Goals as goal

pub returns-clause-printed : goal.returns-clause-printed
returns-clause-printed g c = λ k json start old comes.
    let it = c.in_ok-half.field-0 in
    one_more k json c.args.halves.now.items c.push.new.self.items it.half (string_bytes it.text) start c.args.out.now c.print.new.self
    c.in_ok-push.ensures.items old (comes it (search rules)) (subst (λ t. Prints t c.args.out.now c.print.new.self) (search rules) c.in_ok-print.ensures)
