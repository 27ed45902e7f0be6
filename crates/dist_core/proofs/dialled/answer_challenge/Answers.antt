use Rattle.dist_core.proofs.Words.{rules}
use Rattle.dist_core.proofs.dialled.answer_challenge.Goals as goal

pub returns-then-not-has-clause-effect : goal.returns-then-not-has-clause-effect
returns-then-not-has-clause-effect c es id = search rules
