use Rattle.std.proofs.Common.{arith}
use Rattle.dist_world_lives.specs.Wires.{with_undelivered}
use Rattle.dist_world_lives.proofs.Edits.{at_set, at_past}
use Rattle.dist_world_lives.proofs.connections.Connections.put_undelivered.Goals as goal

pub returns-then-place-len : goal.returns-then-place-len
returns-then-place-len c = rw (← c.self.view_is) (rw c.put_undelivered.ensures (at_set (with_undelivered c.args.side c.args.bytes) c.self.inside.all.items c.args.place c.index_mut-conn.result.now (omega arith) c.index_mut-conn.ensures.value))

pub returns-else-place-len : goal.returns-else-place-len
returns-else-place-len c = rw (← c.self.view_is) (at_past (with_undelivered c.args.side c.args.bytes) c.self.inside.all.items c.args.place (omega arith))
