use Rattle.dist_frames.proofs.Times.{said-in-time, quiet-ticks}
use Rattle.dist_frames.proofs.link_laws.a_tick_is_due_in_time.Goals as goal

pub returns-clause-said : goal.returns-clause-said
returns-clause-said c = said-in-time

pub returns-clause-quiet : goal.returns-clause-quiet
returns-clause-quiet c = quiet-ticks
