-- What a change of an incarnation's setup makes of the list of incarnations.
use Rattle.std.specs.Prelude.{◌≡◌, ℕ, Bool, true, false, List, Some, None, Result, Ok, Err, slice_get}
use Rattle.std.specs.declared.alloc.AllocError.{AllocError}
use Rattle.dist_core.specs.{declared.changing.Change.Change, declared.changing.ChangeError.ChangeError, Changing.change, Node.NodeState}
use Rattle.dist_core.specs.declared.changing.ChangeError.TheVariants as error
use Rattle.dist_world_model.specs.{Lists.at_place, World.World, World.Life, World.running, Happenings.reset, Happenings.with_node}

-- incarnation i changed its setup
pub record HasReset (i : ℕ) (v : Change) (lives new : List Life) : Type 0 where
  pub life : Life
  pub node : NodeState
  pub there : slice_get lives i ≡ Some life
  pub changed : change life.node v ≡ Ok node
  pub lived_ : new ≡ at_place i (with_node node) lives

-- no world in which these incarnations are lets the node whose running incarnation is i change its setup so
abbrev pub Forbids : List Life → ℕ → Change → Type 0
Forbids lives i v = (w : World) (node : ℕ) → w.lives ≡ lives → running w node ≡ Some i → reset w node v ≡ None

-- out of memory, and no refusal of the change
abbrev pub is_reset_memory_error : ChangeError → Bool
is_reset_memory_error error.InUse = false
is_reset_memory_error error.Full = false
is_reset_memory_error error.NoMemory = true

-- THE CHANGE was made, was refused, or memory ran out, and then nothing changed
abbrev pub Resets : Result Bool AllocError → ℕ → Change → List Life → List Life → Type 0
Resets (Ok true) i v lives new = HasReset i v lives new
Resets (Ok false) i v lives new = Forbids lives i v × (new ≡ lives)
Resets (Err e) i v lives new = new ≡ lives
