use Rattle.std.specs.FinMap as map
use Rattle.dist_core_ends.proofs.Legal.{legal}
use Rattle.dist_core_ends.proofs.ends.Ends.open_ends.Goals as goal

pub returns-clause-legal : goal.returns-clause-legal
returns-clause-legal c = rw (← c.self.view_is) (legal (map.get c.self.inside.peers) c.self.inside.list.items c.self.invariant.agree)
