use Rattle.std.proofs.Common.{◌++◌, length}
use Rattle.dist_frames.proofs.Owing.{Counted}
use Rattle.dist_frames.proofs.partial.Partial.feed.Given as goal

abbrev pub invariant-loop-rest : goal.invariant-loop-rest
invariant-loop-rest l = Counted l.count (l.self ++ l.rest) (l.fn.self ++ l.piece)

abbrev pub decreases-loop-rest : goal.decreases-loop-rest
decreases-loop-rest l = length l.rest
