use Rattle.std.specs.List.{IsFirstBest}
use Rattle.dist_talk.specs.Reaching.{is_further}
use Rattle.dist_talk.proofs.reaching.furthest.Given as goal

abbrev pub invariant-loop-at : goal.invariant-loop-at
invariant-loop-at l = IsFirstBest is_further l.verdicts l.at l.best
