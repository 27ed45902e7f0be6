-- A desk that holds its node itself.
use Rattle.std.specs.Prelude.{◌≡◌, ◌≢◌, ℕ, ◌<◌, ◌⊎◌, true, List, Some, slice_get}
use Rattle.dist_peers.specs.declared.entry.EndId.{EndId}
use Rattle.dist_core_ends.specs.{declared.known.End.End, declared.phase.Still.Still, Ends.is_open, Ends.still_of}
use Rattle.dist_core.specs.{declared.event.Event.Event, declared.step_error.StepError.StepError, Answers.Refuses, Clauses.end_of, Node.NodeState, Step.step}
use Rattle.dist_core.specs.declared.step_error.StepError.TheVariants as error
use Rattle.dist_drive.specs.Desks.{Step, DeskFacts}

-- what contracts see of it
pub record MemoryState : Type 0 where
  pub end_ : EndId
  pub node : NodeState
  -- the steps that were made
  pub list : List Step

-- An event that doesn't name the end is refused as unknown, any other as the node refuses it.
abbrev pub MayRefuse : MemoryState → Event → ℕ → StepError → Type 0
MayRefuse desk event fresh e = ((end_of event ≢ Some desk.end_) × (e ≡ error.NoSuchEnd)) ⊎ Refuses e (step desk.node event fresh)

-- An end stands as its node says.
abbrev pub IsStillAt : MemoryState → EndId → Still → Type 0
IsStillAt desk id still = still ≡ still_of (slice_get desk.node.ends id.0)

-- what the desk says of itself
abbrev pub memory_facts : DeskFacts MemoryState
memory_facts = record { list = λ desk. desk.list; standing = IsStillAt; refusal = MayRefuse }

-- while the end is open, there is room for one step more
abbrev pub HasRoom : NodeState → EndId → ℕ → ℕ → Type 0
HasRoom node id len capacity = (e : End) → slice_get node.ends id.0 ≡ Some e → is_open e ≡ true → len < capacity
