-- Each call has fewer nodes.
use Rattle.std.proofs.Common.{length}
use Rattle.distping.proofs.together.+collect_halves.Given as goal

abbrev pub decreases-collect_halves : goal.decreases-collect_halves
decreases-collect_halves g l = length l.nodes.now
