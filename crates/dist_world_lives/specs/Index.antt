-- Where the running incarnation of each node is.
use Rattle.std.specs.Prelude.{◌≡◌, ℕ, Bool, true, false, List, Option, Some, None, slice_get}
use Rattle.dist_world_model.specs.{Lists.first_where, World.Life, World.runs_for}

abbrev pub flat : Option (Option ℕ) → Option ℕ
flat None = None
flat (Some o) = o

-- what the index has for a node
abbrev pub index_at : List (Option ℕ) → ℕ → Option ℕ
index_at index i = flat (slice_get index i)

abbrev pub passes : {A : Type 0} → (A → Bool) → Option A → Bool
passes test None = false
passes test (Some x) = test x

-- the index has the running incarnation of each node, and no node has two
pub record IsIndexed (lives : List Life) (index : List (Option ℕ)) : Type 0 where
  pub found : (i : ℕ) → index_at index i ≡ first_where (runs_for i) lives
  pub alone : (i p q : ℕ) → passes (runs_for i) (slice_get lives p) ≡ true → passes (runs_for i) (slice_get lives q) ≡ true → p ≡ q
