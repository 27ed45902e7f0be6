use Rattle.dist_core.proofs.Words.{◌≡◌, ℕ, ◌<◌, slice_get, Some, Setup}
use Rattle.dist_world_model.specs.Agreement.{IsSetup}
use Rattle.dist_world.proofs.setups.all_known.Given as goal

-- those so far
abbrev pub invariant-loop-i : goal.invariant-loop-i
invariant-loop-i l = (k : ℕ) (s : Setup) → k < l.i → slice_get l.setups k ≡ Some s → IsSetup s
