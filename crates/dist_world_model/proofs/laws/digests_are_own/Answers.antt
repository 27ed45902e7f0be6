use Rattle.dist_world_model.proofs.Digests.{digest_lives}
use Rattle.dist_world_model.proofs.laws.digests_are_own.Goals as goal

pub returns : goal.returns
returns c = digest_lives c.nodes_keep_laws.ensures
