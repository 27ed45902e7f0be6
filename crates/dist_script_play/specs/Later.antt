-- How the pairs that agree are found: who stands in a node's table is looked up by name.
use Rattle.std.specs.Prelude.{◌≡◌, ℕ, suc, ◌+◌, ◌<◌, ◌==◌, nat_lt, Bool, false, true, if◌then◌else◌, List, length, Option, Some, None, slice_get}
use Rattle.std.specs.{Ordering.nat_cmp, BTreeMap.BTreeMap, BTreeMap.get, BTreeSet.BTreeSet, BTreeSet.contains}
use Rattle.std.specs.FinMap as map
use Rattle.dist_names.specs.Order.{Name, name_cmp}
use Rattle.dist_peers.specs.declared.entry.Entry.{Entry}
use Rattle.dist_core_ends.specs.Ends.{table_of}
use Rattle.dist_core_setup.specs.declared.setup.Setup.{Setup}
use Rattle.dist_core.specs.Node.{NodeState}
use Rattle.dist_world_model.specs.{World.World, Agreement.Counts}
use Rattle.dist_script_play.specs.Worlds.{AreLinesOf, with_each, places_from}

-- these are the places of the first nodes, this many of them, by their names
pub record ArePlaces (places : BTreeMap Name ℕ) (setups : List Setup) (count : ℕ) : Type 0 where
  pub known : (b : ℕ) (s : Setup) → b < count → slice_get setups b ≡ Some s → get name_cmp places s.name ≡ Some b
  pub within : (p : Name) (b : ℕ) → get name_cmp places p ≡ Some b → b < count
  pub named : (p : Name) (b : ℕ) (s : Setup) → get name_cmp places p ≡ Some b → slice_get setups b ≡ Some s → s.name ≡ p

-- the place of the peer of a row
abbrev pub place_of : BTreeMap Name ℕ → Option (Name × Entry) → Option ℕ
place_of places None = None
place_of places (Some row) = get name_cmp places row.0

-- the same, where it is behind a
abbrev pub place_behind : ℕ → Option ℕ → Option ℕ
place_behind a None = None
place_behind a (Some b) = if nat_lt a b then Some b else None

-- the place of the peer in this row of a table, where it is behind a
abbrev pub later_at : BTreeMap Name ℕ → ℕ → NodeState → ℕ → Option ℕ
later_at places a n row = place_behind a (place_of places (slice_get (map.entries (table_of n.ends)) row))

abbrev pub is_this : ℕ → Option ℕ → Bool
is_this q None = false
is_this q (Some b) = b == q

-- these are the places behind a of the peers in the first rows of a table, this many of them
pub record AreLater (later : BTreeSet ℕ) (places : BTreeMap Name ℕ) (a : ℕ) (n : NodeState) (count : ℕ) : Type 0 where
  pub all : (row b : ℕ) → row < count → later_at places a n row ≡ Some b → contains nat_cmp later b ≡ true
  pub only : (b : ℕ) → contains nat_cmp later b ≡ true → (a < b) × ((p : Name) × (get name_cmp places p ≡ Some b))

-- among these are all whom node a counts as up, from place k on, and only such places
pub record HasAllFrom (later : BTreeSet ℕ) (w : World) (a k : ℕ) : Type 0 where
  pub all : (b : ℕ) → k < suc b → Counts w a b → contains nat_cmp later b ≡ true
  pub within : (b : ℕ) → contains nat_cmp later b ≡ true → (k < suc b) × (b < length w.setups)

-- the lines of what is printed of node a with each one from place k on
abbrev pub IsRowFrom : World → ℕ → ℕ → List ℕ → Type 0
IsRowFrom w a k text = (count : ℕ) × (k + count ≡ length w.setups) × AreLinesOf w (with_each a (places_from k count)) text
