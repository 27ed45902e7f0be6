-- Of nodes that are named themselves, those so far were added, and no status is known.
use Rattle.std.proofs.Common.{◌≡◌, ◌++◌, ℕ, List, take}
use Rattle.distping.specs.Runs.{AreNodes}
use Rattle.distping.proofs.gathering.gather.Given as goal

abbrev pub invariant-loop-target : goal.invariant-loop-target
invariant-loop-target g l = (names : List (List ℕ)) → AreNodes l.context.wanted.now.targets.items names
    → (l.status ≡ 0) × (l.nodes.names.items ≡ l.initial.nodes.names.items ++ take l.target-index names)
