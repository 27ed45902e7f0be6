use Rattle.std.proofs.Common.{rules}
use Rattle.dist_peers.proofs.entry.PeersError.name.Goals as goal

pub returns-in-Full : goal.returns-in-Full
returns-in-Full c = search rules
