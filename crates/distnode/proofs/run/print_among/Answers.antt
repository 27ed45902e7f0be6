use Rattle.distnode.proofs.Printing.{among}
use Rattle.distnode.proofs.run.print_among.Goals as goal

pub returns-clause-text : goal.returns-clause-text
returns-clause-text g c =
    let found = c.args.found.now in
    among found.world found.strangers c.in_ok-is_fooled.is_fooled _ _ _ _ _ c.in_ok-print_world.ensures c.in_ok-print_strangers.ensures c.in_ok-is_fooled.ensures.text
    c.in_ok-print_nobody.ensures
