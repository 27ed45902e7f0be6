use Rattle.std.proofs.Common.{rules}
use Rattle.dist_script.proofs.words.is_skipped.Goals as goal

pub returns-in-len1-up : goal.returns-in-len1-up
returns-in-len1-up c = search rules
