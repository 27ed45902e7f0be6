use Rattle.std.proofs.Common.{arith}
use Rattle.dist_conformance.specs.Judging.{no_passage}
use Rattle.dist_conformance.proofs.Later.{sequence_matches}
use Rattle.dist_conformance.proofs.laws.matches_for_good.Goals as goal

pub returns : goal.returns
returns c = λ patterns o later p l b e. sequence_matches o later l patterns no_passage p (omega arith) b e
