-- The nodes so far are within the limit, and no two of them are one.
use Rattle.std.proofs.Common.{◌≢◌, ◌<◌, ◌≤◌, ◌-◌, length, take}
use Rattle.std.specs.List.{AllPairs}
use Rattle.distping.proofs.grouping.count_next.Given as goal

abbrev pub invariant-loop-size : goal.invariant-loop-size
invariant-loop-size l = (l.size ≤ l.most) × (l.most ≤ 32) × (l.most ≤ length l.nodes) × (0 < length l.nodes → 0 < l.size) × AllPairs (λ x y. x ≢ y) (take l.size l.nodes)

abbrev pub decreases-loop-size : goal.decreases-loop-size
decreases-loop-size l = l.most - l.size
