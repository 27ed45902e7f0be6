-- WHAT THE CODE KEEPS BESIDE THE LINES, so that it never searches the lines twice.
use Rattle.std.specs.Prelude.{◌≡◌, ℕ, suc, ◌==◌, Bool, false, not, if◌then◌else◌, is_some, List, [], ◌∷◌, Option, Some, None}
use Rattle.std.specs.{Option.option_map, Ordering.nat_cmp, BTreeMap.BTreeMap, BTreeMap.get, BTreeSet.BTreeSet, BTreeSet.contains}
use Rattle.dist_peers.specs.declared.entry.EndId.{EndId}
use Rattle.dist_core.specs.declared.event.Event.{Event}
use Rattle.dist_core.specs.declared.event.Event.TheVariants as event
use Rattle.dist_audit.specs.{Lines.NodeLine, Links.dialler_of, Links.acceptor_of, Outside.stands_twice}

-- these maps have, for each link, the end that dialled it, with its node, and the node that accepted it; the set has those that stand
-- in two lines of one kind
pub record Knows (diallers : BTreeMap ℕ (ℕ × EndId)) (acceptors : BTreeMap ℕ ℕ) (doubled : BTreeSet ℕ) (ts : List NodeLine) : Type 0 where
  pub dialled : (k : ℕ) → get nat_cmp diallers k ≡ dialler_of k ts
  pub came : (k : ℕ) → get nat_cmp acceptors k ≡ acceptor_of k ts
  pub twice : (k : ℕ) → contains nat_cmp doubled k ≡ stands_twice k ts

-- an earlier event of this kind has the same link
abbrev pub is_again : BTreeMap ℕ (ℕ × EndId) → BTreeMap ℕ ℕ → Event → Bool
is_again diallers acceptors (event.Opened id k) = is_some (get nat_cmp diallers k)
is_again diallers acceptors (event.Incoming k) = is_some (get nat_cmp acceptors k)
is_again diallers acceptors _ = false

-- the event is that a link came, and no node is known to have dialled it
abbrev pub is_unknown : BTreeMap ℕ (ℕ × EndId) → Event → Bool
is_unknown diallers (event.Incoming k) = not (is_some (get nat_cmp diallers k))
is_unknown diallers _ = false

-- the place of a link in a list
abbrev pub number_of : ℕ → List ℕ → Option ℕ
number_of k [] = None
number_of k (j ∷ js) = if j == k then Some 0 else option_map suc (number_of k js)

-- the map has the place of each link in the list
abbrev pub AreNumbers : BTreeMap ℕ ℕ → List ℕ → Type 0
AreNumbers numbers ks = (k : ℕ) → get nat_cmp numbers k ≡ number_of k ks
