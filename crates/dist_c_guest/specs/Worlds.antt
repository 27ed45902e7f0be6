-- A WORLD OF GUESTS: its nodes read what comes as guests do.
use Rattle.std.specs.Prelude.{◌≡◌, ℕ, true, if◌then◌else◌, nat_lt, List, [], ◌∷◌, Option, Some, None, slice_get}
use Rattle.std.specs.List.{AllByRecursion}
use Rattle.dist_core_setup.specs.declared.setup.Setup.{Setup}
use Rattle.dist_world_model.specs.Agreement.{Fits}
use Rattle.dist_world_model.specs.Happenings.{most_applied, take_read, ticked_on, without_closing, world_after}
use Rattle.dist_world_model.specs.{declared.happening.Happening.Happening, World.World, World.empty}
use Rattle.dist_world_model.specs.declared.happening.Happening.TheVariants as happening
use Rattle.dist_core.specs.declared.event.Event.TheVariants as event
use Rattle.dist_c_guest.specs.{Reading.expansion, Whole.is_whole}

-- guests, each by its setup and by the flags that DFLAG_MANDATORY_25_DIGEST stands for to it
abbrev pub Guests : Type 0
Guests = List (Setup × ℕ)

abbrev pub setups_in : Guests → List Setup
setups_in [] = []
setups_in (g ∷ gs) = g.0 ∷ setups_in gs

-- what the digest stands for to guest i
abbrev pub mandatory_of : Option (Setup × ℕ) → ℕ
mandatory_of None = 0
mandatory_of (Some g) = g.1

-- EACH IS WHOLE, as dn_node_new makes it
abbrev pub AreWhole : Guests → Type 0
AreWhole guests = (i : ℕ) (g : Setup × ℕ) → slice_get guests i ≡ Some g → is_whole g.0 g.1 ≡ true

-- A HAPPENING FITS these guests: its numbers fit, and a guest that it begins with a setup is whole with that
abbrev pub FitsGuests : Guests → Happening → Type 0
FitsGuests guests (happening.BeginAs i s) = Fits (happening.BeginAs i s) × (is_whole s (mandatory_of (slice_get guests i)) ≡ true)
FitsGuests guests h = Fits h

-- each of them fits
abbrev pub AllFitGuests : Guests → List Happening → Type 0
AllFitGuests guests = AllByRecursion (FitsGuests guests)

-- ---- what happens

-- A HAPPENING AS ITS GUEST READS IT: what somebody outside sends may have the digest too
abbrev pub read_by : Guests → Happening → Happening
read_by guests (happening.Outside i (event.Frame id body) fresh) =
    happening.Outside i (event.Frame id (expansion (mandatory_of (slice_get guests i)) body)) fresh
read_by guests h = h

-- each of them
abbrev pub all_read : Guests → List Happening → List Happening
all_read guests [] = []
all_read guests (h ∷ hs) = read_by guests h ∷ all_read guests hs

-- the world after a happening that applies: a guest takes a frame as it reads it
abbrev pub world_after_guests : Guests → World → Happening → Option World
world_after_guests guests w (happening.Take i id fresh) = take_read (expansion (mandatory_of (slice_get guests i))) w i id fresh
world_after_guests guests w h = world_after w (read_by guests h)

-- one happening; one that does not apply changes nothing
abbrev pub guests_happen : Guests → World → Happening → World
guests_happen guests w h = ticked_on w (if nat_lt w.clock most_applied then world_after_guests guests (without_closing w) h else None)

-- THE WORLD OF THESE GUESTS after these happenings, from a world on
abbrev pub run_guests_from : Guests → List Happening → World → World
run_guests_from guests [] w = w
run_guests_from guests (h ∷ hs) w = run_guests_from guests hs (guests_happen guests w h)

-- and from their beginning
abbrev pub run_guests : Guests → List Happening → World
run_guests guests hs = run_guests_from guests hs (empty (setups_in guests))
