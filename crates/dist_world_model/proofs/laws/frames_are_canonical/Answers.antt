use Rattle.dist_world_model.proofs.CanonicalFrames.{canonical-frames}
use Rattle.dist_world_model.proofs.laws.frames_are_canonical.Goals as goal

pub returns : goal.returns
returns c = canonical-frames c.nodes_keep_laws.ensures
