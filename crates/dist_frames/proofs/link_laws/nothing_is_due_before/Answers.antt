use Rattle.dist_frames.proofs.Times.{rests-before, wakes-then}
use Rattle.dist_frames.proofs.link_laws.nothing_is_due_before.Goals as goal

pub returns-clause-before : goal.returns-clause-before
returns-clause-before c = rests-before

pub returns-clause-then_ : goal.returns-clause-then_
returns-clause-then_ c = wakes-then
