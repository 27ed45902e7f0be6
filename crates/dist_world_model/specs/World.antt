-- THE WORLD: several nodes, all their incarnations, and the connections between them.
use Rattle.std.specs.Prelude.{◌==◌, ◌&&◌}
use Rattle.dist_world_model.specs.Words.{ℕ, Bool, List, [], Option, Some, None, not, EndId, Why, is_some, slice_get, Setup, End, NodeState}
use Rattle.dist_world_model.specs.{Lists.first_where, Rows.EndRow}

-- one incarnation of a node: whose it is, since which happening, until which, its node and the rows of its ends
pub record Life : Type 0 where
  pub who : ℕ
  pub begun : ℕ
  pub over : Option ℕ
  pub node : NodeState
  pub rows : List EndRow

-- one direction of a connection: what was sent and is undelivered, what was delivered and is not taken
pub record Text : Type 0 where
  pub said : List ℕ
  pub come : List ℕ

-- a connection: the dialled end, by its incarnation and number, the incarnation that it leads to, the number of the
-- end accepted there, and what is on the way to that end and back
pub record Conn : Type 0 where
  pub life : ℕ
  pub dialler : ℕ
  pub target : ℕ
  pub accepted : Option ℕ
  pub there : Text
  pub back : Text

-- THE WORLD: the setups with which the nodes begin, all incarnations in the order of their beginnings, all connections, the
-- count of the happenings that applied, and the end that the step of the last of these closed, with its node and the cause
pub record World : Type 0 where
  pub setups : List Setup
  pub lives : List Life
  pub conns : List Conn
  pub clock : ℕ
  pub last_closed : Option (ℕ × (EndId × Why))

-- no node runs yet
abbrev pub empty : List Setup → World
empty setups = record { setups = setups; lives = []; conns = []; clock = 0; last_closed = None }

-- ---- where things stand

-- it is not over
abbrev pub runs : Life → Bool
runs l = not (is_some l.over)

-- it is a running incarnation of node i
abbrev pub runs_for : ℕ → Life → Bool
runs_for i l = (l.who == i) && runs l

-- THE RUNNING INCARNATION of a node, by its place among all
abbrev pub running : World → ℕ → Option ℕ
running w i = first_where (runs_for i) w.lives

-- the row of an end of this incarnation
abbrev pub row_of_life : Option Life → ℕ → Option EndRow
row_of_life None id = None
row_of_life (Some l) id = slice_get l.rows id

-- the row of an end of incarnation i
abbrev pub row_at : World → ℕ → ℕ → Option EndRow
row_at w i id = row_of_life (slice_get w.lives i) id

-- an end of this incarnation
abbrev pub end_of_life : Option Life → ℕ → Option End
end_of_life None id = None
end_of_life (Some l) id = slice_get l.node.ends id

-- the end itself
abbrev pub end_at : World → ℕ → ℕ → Option End
end_at w i id = end_of_life (slice_get w.lives i) id
