use Rattle.std.proofs.Common.{◌≡◌}
use Rattle.dist_cluster.specs.Watching.{watching}
use Rattle.dist_cluster.proofs.watch.Watch.new.Given as goal

abbrev pub invariant-loop : goal.invariant-loop
invariant-loop l = l.verdicts.items ≡ watching l.counter
