use Rattle.dist_capture.proofs.Passing.{whole_lem, only_lem}
use Rattle.dist_capture.proofs.laws.any_pieces.Goals as goal

pub returns-clause-whole : goal.returns-clause-whole
returns-clause-whole c = whole_lem

pub returns-clause-only : goal.returns-clause-only
returns-clause-only c = only_lem
