-- How a registry keeps its rows.
use Rattle.std.specs.{Prelude.◌≡◌, Prelude.ℕ, Prelude.List, Prelude.Vec, List.AllByRecursion}
use Rattle.dist_epmd.specs.declared.row.Row.{Row}

-- The row stands at its own name.
abbrev pub IsAtItsName : {Z : Type 0} → Vec ℕ Z × Row → Type 0
IsAtItsName e = e.0.items ≡ e.1.info.name

-- Each row stands at its own name.
abbrev pub StandAtNames : {Z : Type 0} → List (Vec ℕ Z × Row) → Type 0
StandAtNames es = AllByRecursion IsAtItsName es
