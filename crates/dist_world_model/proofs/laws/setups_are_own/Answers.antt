use Rattle.dist_world_model.proofs.OwnSetups.{begun-setup, set-digests, unchanged}
use Rattle.dist_world_model.proofs.laws.setups_are_own.Goals as goal

pub returns : goal.returns
returns c = record { begun = begun-setup; unchanged = unchanged; digests = set-digests c.nodes_keep_laws.ensures }
