use Rattle.distnode.proofs.Printing.{held}
use Rattle.distnode.proofs.run.print_world.Goals as goal

pub returns-in-Ok : goal.returns-in-Ok
returns-in-Ok g c =
    held c.args.world.now (g.W.Write.contents c.args.out.now) (g.W.Write.contents c.print_nodes.new.out) (g.W.Write.contents c.print_agreements.new.out) (g.W.Write.contents c.write_all.new.self)
    c.in_ok-print_nodes.ensures c.in_ok-print_agreements.ensures c.in-Ok.ensures.bytes
