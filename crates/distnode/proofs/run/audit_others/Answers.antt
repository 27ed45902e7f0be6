use Rattle.std.proofs.Common.{subst}
use Rattle.distnode.specs.RunPrinted.{Puts, IsAmong}
use Rattle.distnode.proofs.Printing.{says_among}
use Rattle.distnode.proofs.run.audit_others.Goals as goal

pub returns-in-Ok : goal.returns-in-Ok
returns-in-Ok g c =
    let found = c.in-Ok.found in
    let printed = c.in_ok-print_among-in-Ok in
    let old = g.W.Write.contents c.args.out.now in
    let new = g.W.Write.contents c.print_among.new.out in
    says_among c.args.all.now found.world found.strangers old new c.in-Ok.ensures.world (printed.ensures.nobody c.in-false.is)
    (subst (λ v. Puts (IsAmong found.world found.strangers v) old new) c.in-false.is printed.ensures.text)
