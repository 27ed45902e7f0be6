use Rattle.std.proofs.Common.{rules}
use Rattle.dist_peers.proofs.peers.Peers.came_up.Goals as goal

pub returns-clause-replaced : goal.returns-clause-replaced
returns-clause-replaced c = search rules
