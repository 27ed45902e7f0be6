-- WHAT GUARDS SHOW in a world of guests, and what two nodes that show each other agree on.
use Rattle.std.specs.Prelude.{◌≡◌, ℕ, true, List, Some, slice_get}
use Rattle.dist_core_setup.specs.declared.setup.Setup.{Setup}
use Rattle.dist_core_ends.specs.declared.known.UpRecord.{UpRecord}
use Rattle.dist_core_ends.specs.declared.known.End.TheVariants as ends
use Rattle.dist_world_model.specs.World.{World, Life, running}
use Rattle.dist_world_model.specs.Agreement.{IsUp, AreAgreed}
use Rattle.dist_c_guest.specs.Guard.{Told, first_guard, run_guard}

-- node a's running incarnation has this end, whose peer is b where it is up
pub record LeadsTo (w : World) (a b id : ℕ) : Type 0 where
  pub place : ℕ
  pub life : Life
  pub other : Setup
  pub runs_now : running w a ≡ Some place
  pub lives : slice_get w.lives place ≡ Some life
  pub named : slice_get w.setups b ≡ Some other
  pub peer : (r : UpRecord) → slice_get life.node.ends id ≡ Some (ends.Up r) → r.peer ≡ other.name

-- NODE a SHOWS NODE b: the node of a's running incarnation is that of a guard that was told this, and the guard shows an
-- end that leads to b
pub record GuardShows (w : World) (a b : ℕ) : Type 0 where
  pub id : ℕ
  pub leads : LeadsTo w a b id
  pub setup : Setup
  pub told : List Told
  pub same : (let g = run_guard told (first_guard setup) in g.node) ≡ leads.life.node
  pub shown : (let g = run_guard told (first_guard setup) in g.shown id) ≡ true

-- they agree on one connection
pub record Agree (w : World) (a b : ℕ) : Type 0 where
  pub c : ℕ
  pub d : ℕ
  pub x : IsUp w a b c
  pub y : IsUp w b a d
  pub agreed : AreAgreed w a b c d x y

-- and its two ends are these
pub record AgreeBy (w : World) (a b i j : ℕ) : Type 0 where
  pub agree : Agree w a b
  pub at_a : agree.x.id ≡ i
  pub at_b : agree.y.id ≡ j
