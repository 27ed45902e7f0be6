use Rattle.std.specs.BTreeMap.{get}
use Rattle.dist_core_ends.proofs.Words.{◌≡◌, ◌≤◌, false, length, drop, is_some, Name, name_cmp}
use Rattle.dist_world.specs.Setups.{is_named, names_repeat}
use Rattle.dist_world.proofs.setups.names_repeat_in_set.Given as goal

-- the names of those behind, no two of which are one
abbrev pub invariant-loop-i : goal.invariant-loop-i
invariant-loop-i l = (l.i ≤ length l.setups) × (names_repeat (drop l.i l.setups) ≡ false) × ((n : Name) → is_some (get name_cmp l.behind n) ≡ is_named (drop l.i l.setups) n)

abbrev pub decreases-loop-i : goal.decreases-loop-i
decreases-loop-i l = l.i
