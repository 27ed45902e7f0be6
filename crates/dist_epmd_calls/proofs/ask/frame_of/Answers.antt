use Rattle.dist_epmd_calls.proofs.Words.{rules}
use Rattle.dist_epmd_calls.proofs.ask.frame_of.Goals as goal

pub returns-in-Err : goal.returns-in-Err
returns-in-Err c = search rules

pub returns-in-Ok-write_short : goal.returns-in-Ok-write_short
returns-in-Ok-write_short c = search rules

pub returns : goal.returns
returns c = search rules
