-- Whether a node can do an effect as a step that counts, and the node after it. No public contract speaks of them.
use Rattle.std.specs.Prelude.{◌≡◌, ◌≤◌, ◌+◌, length, false, Some, slice_get}
use Rattle.dist_peers.specs.declared.entry.EndId.{EndId}
use Rattle.dist_core_ends.specs.{declared.known.UpRecord.UpRecord, Ends.AreLegal, Ends.table_of}
use Rattle.dist_core_ends.specs.declared.known.End.TheVariants as ends
use Rattle.dist_core.specs.{declared.effect.Effect.Effect, Fitting.FitsNodeTable, Node.NodeState, Node.ends_after, Node.is_spent, Node.limits_of}

-- the node can have the effect, and has a step and a number left for it
pub record CanDo (n : NodeState) (f : Effect) : Type 0 where
  pub fits : AreLegal n.ends → FitsNodeTable n (table_of n.ends) f
  pub few : length (ends_after n.ends f) ≤ n.steps + 1
  pub bounded : n.steps + 1 ≤ (let l = limits_of n in l.steps)
  pub numbered : length (ends_after n.ends f) ≤ (let l = limits_of n in l.ends)

-- the node after this effect
abbrev pub node_with : NodeState → Effect → NodeState
node_with n f = record { setup = n.setup; steps = n.steps + 1; ends = ends_after n.ends f }

-- the end is up, and a step is left for a tick
pub record TakesTick (n : NodeState) (id : EndId) : Type 0 where
  pub kept : UpRecord
  pub at_ : slice_get n.ends id.0 ≡ Some (ends.Up kept)
  pub left : is_spent n ≡ false
