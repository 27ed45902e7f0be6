-- A NODE THAT IS RENEWED, as a world has it: it ends, and begins again.
use Rattle.std.specs.Prelude.{◌∷◌, ◌+◌, ◌≡◌, ◌<◌, ◌≤◌}
use Rattle.dist_world_model.specs.Words.{ℕ, List, [], Some, slice_get, Setup, length, Change, opening, Happening}
use Rattle.dist_world_model.specs.{World.World, World.Life, World.running, Happenings.most_applied, Happenings.most_begins}
use Rattle.dist_world_model.specs.declared.happening.Happening.TheVariants as happening

-- the node changes its setup so, one change after another
abbrev pub resets : ℕ → List Change → List Happening
resets node [] = []
resets node (v ∷ vs) = happening.Reset node v ∷ resets node vs

-- THE NODE ENDS, begins again by this happening, and changes its setup so
abbrev pub renewal : ℕ → Happening → List Change → List Happening
renewal node begin vs = happening.Halt node ∷ begin ∷ resets node vs

-- the limits of a world leave room for all of this
pub record HasRoom (w : World) (vs : List Change) : Type 0 where
  pub begins : length w.lives < most_begins
  pub applied : w.clock + 2 + length vs ≤ most_applied

-- THE NODE RUNS AS ONE THAT OPENED with this setup: it has no ends, and none were given out
pub record HasOpened (w : World) (node : ℕ) (s : Setup) : Type 0 where
  pub place : ℕ
  pub life : Life
  pub runs : running w node ≡ Some place
  pub lives : slice_get w.lives place ≡ Some life
  pub opened : life.node ≡ opening s
  pub rows : life.rows ≡ []
