use Rattle.std.proofs.Common.{sym, subst, length}
use Rattle.dist_capture.proofs.Units.{Within, block_within}
use Rattle.dist_capture.proofs.unit.unit_of.Goals as goal

pub returns-in-Pcapng-clause-within : goal.returns-in-Pcapng-clause-within
returns-in-Pcapng-clause-within c = subst (Within (length c.args.bytes.now)) (sym c.block.ensures) (block_within c.in-Pcapng.order c.args.interfaces.now c.args.bytes.now)
