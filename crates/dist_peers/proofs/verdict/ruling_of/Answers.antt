use Rattle.std.proofs.Common.{rules}
use Rattle.dist_peers.proofs.verdict.ruling_of.Goals as goal

pub returns-in-Some-Challenged : goal.returns-in-Some-Challenged
returns-in-Some-Challenged c = search rules

pub returns-in-Some-Up : goal.returns-in-Some-Up
returns-in-Some-Up c = search rules
