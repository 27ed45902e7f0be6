use Rattle.std.proofs.Common.{◌≡◌, ℕ, ◌+◌, ◌-◌, vec_len}
use Rattle.dist_world_lives.specs.Index.{index_at}
use Rattle.dist_world_lives.proofs.incarnations.widen.Given as goal

-- it has what it had
abbrev pub invariant-loop-index : goal.invariant-loop-index
invariant-loop-index l = (i : ℕ) → index_at l.index.items i ≡ index_at l.fn.index.items i

abbrev pub decreases-loop-index : goal.decreases-loop-index
decreases-loop-index l = (l.node + 1) - vec_len l.index
