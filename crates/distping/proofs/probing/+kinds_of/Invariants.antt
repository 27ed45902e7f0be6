-- Each call has an address less.
use Rattle.std.proofs.Common.{length}
use Rattle.distping.proofs.probing.+kinds_of.Given as goal

abbrev pub decreases-kinds_of : goal.decreases-kinds_of
decreases-kinds_of l = length l.addresses.now
