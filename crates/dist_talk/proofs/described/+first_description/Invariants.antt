-- Each call has a message less.
use Rattle.std.proofs.Common.{length}
use Rattle.dist_talk.proofs.described.+first_description.Given as goal

abbrev pub decreases-first_description : goal.decreases-first_description
decreases-first_description l = length l.said.now
