use Rattle.std.proofs.Common.{◌≡◌, length}
use Rattle.dist_conformance.specs.Bodies.{behind_ticks}
use Rattle.dist_conformance.proofs.bodies.behind_ticks.Given as goal

-- what is left decides
abbrev pub invariant-loop-behind : goal.invariant-loop-behind
invariant-loop-behind l = behind_ticks l.left ≡ behind_ticks l.fn.came

abbrev pub decreases-loop-behind : goal.decreases-loop-behind
decreases-loop-behind l = length l.left
