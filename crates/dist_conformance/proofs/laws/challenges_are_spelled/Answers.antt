use Rattle.dist_conformance.proofs.Challenges.{spelled}
use Rattle.dist_conformance.proofs.laws.challenges_are_spelled.Goals as goal

pub returns : goal.returns
returns c = spelled
