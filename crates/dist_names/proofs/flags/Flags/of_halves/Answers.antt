use Rattle.std.proofs.{Common.arith, lemmas.Grind.common_steps}
use Rattle.dist_names.proofs.flags.Flags.of_halves.Goals as goal

pub returns : goal.returns
returns c = grind (arith, common_steps)
