use Rattle.std.proofs.Common.{rules}
use Rattle.dist_peers.proofs.peers.Peers.name_came.Goals as goal

pub returns-in-Ok-clause-entry : goal.returns-in-Ok-clause-entry
returns-in-Ok-clause-entry c = search rules
