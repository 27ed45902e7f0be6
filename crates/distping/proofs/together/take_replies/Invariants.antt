-- What is kept and printed is what was there before, and the result of each node whose reply was taken.
use Rattle.std.proofs.Common.{◌≡◌, ◌++◌}
use Rattle.std.specs.List.{All}
use Rattle.dist_cluster.specs.Statuses.{first_of}
use Rattle.distping.specs.{Order.first_status, Order.names_in, Order.names_of, Runs.PrintsResults, Runs.ReplyComes}
use Rattle.distping.proofs.together.take_replies.Given as goal

abbrev pub invariant-loop-reply : goal.invariant-loop-reply
invariant-loop-reply g l = (names_of l.halves.items ≡ names_of l.initial.halves.items ++ names_in l.yielded)
    × (first_status l.halves.items ≡ first_of (first_status l.initial.halves.items) l.status)
    × ((c : _) (json : _) (start : _) → PrintsResults c json l.initial.halves.items start l.initial.out → All (ReplyComes c json) l.yielded
    → PrintsResults c json l.halves.items start l.out)
