-- SOMEBODY OUTSIDE: those who are no node of the world, and what is asked of them over a run.
use Rattle.std.specs.Prelude.{◌∷◌, ◌≡◌, ◌≢◌}
use Rattle.dist_world_model.specs.Words.{ℕ, List, [], Some, true, Ok, slice_get, Name, UpRecord, Setup, Reply, NodeState, step, Happening, AllByRecursion}
use Rattle.dist_world_model.specs.{World.World, World.Life, World.running, Happenings.happens, Happenings.is_outside}
use Rattle.dist_world_model.specs.declared.happening.Happening.TheVariants as happening

-- an end that comes up by what somebody outside does has a peer of which P holds
abbrev pub BringsUp : (Name → Type 0) → World → Happening → Type 0
BringsUp P w (happening.Outside a v fresh) =
    (i : ℕ) (l : Life) (r : Reply) (n : NodeState) (kept : UpRecord) → running w a ≡ Some i → slice_get w.lives i ≡ Some l → is_outside w i v ≡ true
    → step l.node v fresh ≡ Ok (r, n) → r.up ≡ Some kept → P kept.peer
BringsUp P w h = Unit {0}

-- the same of each of these happenings, one after another
abbrev pub BringUp : (Name → Type 0) → List Happening → World → Type 0
BringUp P [] w = Unit {0}
BringUp P (h ∷ hs) w = BringsUp P w h × BringUp P hs (happens w h)

-- it is the name of none of these nodes
abbrev pub IsNoNode : List Setup → Name → Type 0
IsNoNode setups name = (b : ℕ) (s : Setup) → slice_get setups b ≡ Some s → name ≢ s.name

-- NOBODY OUTSIDE COMES UP UNDER A NODE'S NAME, in all of a run
abbrev pub AreHonest : List Setup → List Happening → World → Type 0
AreHonest setups = BringUp (IsNoNode setups)

-- nothing comes from outside
abbrev pub IsInside : Happening → Type 0
IsInside (happening.Outside a v fresh) = ⊥
IsInside h = Unit {0}

-- in all of a run
abbrev pub AreInside : List Happening → Type 0
AreInside = AllByRecursion IsInside
