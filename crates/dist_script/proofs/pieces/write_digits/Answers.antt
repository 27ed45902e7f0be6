use Rattle.std.proofs.Common.{rules}
use Rattle.dist_script.proofs.pieces.write_digits.Goals as goal

pub returns : goal.returns
returns c = search rules
