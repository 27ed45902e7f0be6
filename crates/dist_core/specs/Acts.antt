-- Runs of a node that gets events, changes its setup, forgets, and begins anew: all that is ever done to a node.
use Rattle.std.specs.Prelude.{ℕ, ◌==◌, if◌then◌else◌, List, [], ◌∷◌, count_by, Result, Ok, Err}
use Rattle.dist_core_ends.specs.{Ends.is_open, Forgetting.without_causes_below}
use Rattle.dist_core.specs.{Changing.change, Node.NodeState, Runs.node_after, Runs.opening, Step.step}
use Rattle.dist_core.specs.declared.{changing.ChangeError.ChangeError, event.Event.Event, changing.Change.Change}

-- what is done to a node
pub data Act : Type 0 where
  -- a step, for an event and the challenge that was drawn for it
  Steps : (event : Event) → (fresh : ℕ) → Act
  -- a change of its setup
  Changes : (changed : Change) → Act
  -- it forgets why the ends below a number were closed
  Forgets : (below : ℕ) → Act
  -- it begins anew, where no end is open
  Renews : Act

-- a change that is refused leaves the node as it is
abbrev pub changed_or : NodeState → Result NodeState ChangeError → NodeState
changed_or n (Ok m) = m
changed_or n (Err e) = n

-- the node after one act
abbrev pub act : NodeState → Act → NodeState
act n (Steps v fresh) = node_after n (step n v fresh)
act n (Changes v) = changed_or n (change n v)
act n (Forgets below) = record n { ends = without_causes_below below n.ends }
act n Renews = if count_by is_open n.ends == 0 then opening n.setup else n

-- THE NODE AFTER THESE ACTS, one after another
abbrev pub run_acts : List Act → NodeState → NodeState
run_acts [] n = n
run_acts (x ∷ xs) n = run_acts xs (act n x)
