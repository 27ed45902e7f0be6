-- THE SETUP OF EACH INCARNATION: that with which it began, and the changes of its own resets, in order.
use Rattle.std.specs.Prelude.{if◌then◌else◌, ◌∷◌, ◌++◌, ◌==◌, ◌≡◌, ◌⊎◌, ◌&&◌}
use Rattle.dist_world_model.specs.Words.{ℕ, is_some, Bool, List, [], Option, Some, None, true, false, UpRecord, slice_get, Setup, Change, Happening}
use Rattle.dist_world_model.specs.Words.{own_digest, same_bytes, AllByRecursion, setup_after, Creation}
use Rattle.dist_world_model.specs.{World.World, World.Life, World.empty, World.running, Happenings.applied_at, Happenings.happens, Agreement.bare}
use Rattle.dist_world_model.specs.declared.happening.Happening.TheVariants as happening
use Rattle.dist_core_ends.specs.declared.known.End.TheVariants as ends

-- ---- which changes are made of an incarnation's setup

-- this is the place of the incarnation
abbrev pub is_place : Option ℕ → ℕ → Bool
is_place None i = false
is_place (Some j) i = j == i

-- the change of a happening, where it is a reset of the node whose incarnation i runs
abbrev pub change_by : World → Happening → ℕ → List Change
change_by w (happening.Reset node v) i = if is_place (running w node) i then v ∷ [] else []
change_by w h i = []

-- the changes that these happenings make of the setup of incarnation i, in order
abbrev pub changes_at : List Happening → World → ℕ → List Change
changes_at [] w i = []
changes_at (h ∷ hs) w i = (if is_some (applied_at w h) then change_by w h i else []) ++ changes_at hs (happens w h) i

-- the setup after these changes, one after another
abbrev pub setup_by : List Change → Setup → Setup
setup_by [] s = s
setup_by (v ∷ vs) s = setup_by vs (setup_after s v)

-- ---- with which setup an incarnation began

-- the happening that applied as number t
abbrev pub applied_as : List Happening → World → ℕ → Option Happening
applied_as [] w t = None
applied_as (h ∷ hs) w t = if is_some (applied_at w h) && (w.clock == t) then Some h else applied_as hs (happens w h) t

-- THE HAPPENING BEGINS NODE who WITH THIS SETUP: with the node's own, one of these, and a creation, or with another one of its name
abbrev pub BeginsWith : List Setup → Option Happening → ℕ → Setup → Type 0
BeginsWith setups o who s =
    (own : Setup) × (slice_get setups who ≡ Some own)
    × (((creation : Creation) × (o ≡ Some (happening.Begin who creation)) × (s ≡ record own { creation = creation }))
    ⊎ ((o ≡ Some (happening.BeginAs who s)) × (s.name ≡ own.name)))

-- THE INCARNATION HAS THE SETUP WITH WHICH IT BEGAN, and these changes
abbrev pub HasBegunSetup : List Setup → List Happening → List Change → Life → Type 0
HasBegunSetup setups happenings changes l =
    (s : Setup) × BeginsWith setups (applied_as happenings (empty setups) l.begun) l.who s × (l.node.setup ≡ setup_by changes s)

-- EACH RUNNING NODE HAS THE SETUP WITH WHICH IT BEGAN, but for its cookies and its allow list
abbrev pub AreAsBegun : List Setup → List Happening → World → Type 0
AreAsBegun setups happenings w =
    (node place : ℕ) (l : Life) → running w node ≡ Some place → slice_get w.lives place ≡ Some l
    → (s : Setup) × BeginsWith setups (applied_as happenings (empty setups) l.begun) node s × (bare l.node.setup ≡ bare s)

-- ---- runs in which no setup is changed

-- the happening is no reset, and begins no node with another setup
abbrev pub IsNoReset : Happening → Type 0
IsNoReset (happening.Reset node v) = ⊥
IsNoReset (happening.BeginAs node s) = ⊥
IsNoReset h = Unit {0}

-- each of them is such
abbrev pub AreNoResets : List Happening → Type 0
AreNoResets = AllByRecursion IsNoReset

-- THE INCARNATION HAS THE SETUP OF ITS NODE, one of these, with a creation of its own
abbrev pub IsSetUp : List Setup → Life → Type 0
IsSetUp setups l = (s : Setup) × (slice_get setups l.who ≡ Some s) × (l.node.setup ≡ record s { creation = l.node.setup.creation })

-- EVERY END THAT IS UP HOLDS THE DIGEST OF THE COOKIE that its node's setup, one of these, has for the peer
abbrev pub HasSetDigests : List Setup → Life → Type 0
HasSetDigests setups l =
    (s : Setup) → slice_get setups l.who ≡ Some s → (i : ℕ) (r : UpRecord) → slice_get l.node.ends i ≡ Some (ends.Up r)
    → same_bytes r.digest_received (own_digest s r.peer r.challenge) ≡ true
