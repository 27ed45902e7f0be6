use Rattle.std.proofs.Common.{◌≡◌, drop}
use Rattle.dist_world.specs.Setups.{names_repeat}
use Rattle.dist_world.proofs.setups.names_repeat_in_pairs.Given as goal

-- what is left decides
abbrev pub invariant-loop-i : goal.invariant-loop-i
invariant-loop-i l = names_repeat (drop l.i l.setups) ≡ names_repeat l.setups
