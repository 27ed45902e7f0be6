use Rattle.dist_core_ends.proofs.Words.{rules}
use Rattle.dist_core_ends.proofs.ends.Ends.is_dialing.Goals as goal

pub returns-in_default-matches : goal.returns-in_default-matches
returns-in_default-matches c = search rules
