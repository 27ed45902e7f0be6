use Rattle.std.proofs.Common.{rules}
use Rattle.dist_peers.proofs.peers.Peers.dial.Goals as goal

pub returns-in-Ok-clause-entry : goal.returns-in-Ok-clause-entry
returns-in-Ok-clause-entry c = search rules

pub returns-then-is_full_with-clause-entry : goal.returns-then-is_full_with-clause-entry
returns-then-is_full_with-clause-entry c = search rules

pub returns-in-Err-clause-entry : goal.returns-in-Err-clause-entry
returns-in-Err-clause-entry c = search rules

pub put-requires : goal.put-requires
put-requires c = search rules
