use Rattle.dist_frames.proofs.LinkRuns.{right_after, whole_after}
use Rattle.dist_frames.proofs.link_laws.packets_in_any_pieces.Goals as goal

pub returns-clause-right : goal.returns-clause-right
returns-clause-right c = right_after

pub returns-clause-whole : goal.returns-clause-whole
returns-clause-whole c = whole_after
