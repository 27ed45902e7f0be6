-- Each call has fewer nodes.
use Rattle.std.proofs.Common.{length}
use Rattle.distping.proofs.watching.+play_round.Given as goal

abbrev pub decreases-play_round : goal.decreases-play_round
decreases-play_round g l = length l.nodes.now
