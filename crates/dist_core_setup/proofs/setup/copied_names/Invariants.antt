use Rattle.std.proofs.Common.{◌≡◌, take}
use Rattle.dist_core_setup.proofs.setup.copied_names.Given as goal

abbrev pub invariant-loop-i : goal.invariant-loop-i
invariant-loop-i l = l.copy.items ≡ take l.i l.names
