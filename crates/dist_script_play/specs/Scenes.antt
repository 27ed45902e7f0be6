-- What the calls of a scene do, in the words of Played.antt.
use Rattle.std.specs.Prelude.{◌≡◌, ◌⊎◌, ℕ, Bool, true, false, nat_lt, if◌then◌else◌, List, [], Option, Some}
use Rattle.std.specs.Io.KnownBytes.{Appends, Keeps, Consumes, IsAtEnd}
use Rattle.dist_peers.specs.declared.entry.EndId.{EndId}
use Rattle.dist_core_ends.specs.declared.why.Why.{Why}
use Rattle.dist_core_setup.specs.declared.setup.Setup.{Setup}
use Rattle.dist_world_model.specs.{declared.happening.Happening.Happening, World.empty}
use Rattle.dist_world.specs.Setups.{names_repeat}
use Rattle.dist_script.specs.declared.fault.ScriptFault.TheVariants.{TooLong, SameName, ReadFailed, NoMemory}
use Rattle.dist_script.specs.{Fault.status_of, declared.fault.ScriptFault.ScriptFault}
use Rattle.dist_script_play.specs.Played.{Standing, Received, is_said, IsPrintedFrom, IsPlayed, IsPlayedPart, fault_in, happenings_text, closed_now}
use Rattle.dist_script_play.specs.Pages.{IsOfSystem, Puts, PutsPart, BreaksOff}

-- the lines of frames were written, it was returned whether there is one, and the state is that after them
pub record Receives (h : Received) (some : Bool) (old new : Option (List ℕ)) (s : Standing) : Type 0 where
  pub text : Appends old new h.text
  pub any : some ≡ is_said h.text
  pub after : s ≡ h.after

-- ---- a text of which only a property is known

-- one was written
abbrev pub PutsOne : (List ℕ → Type 0) → Option (List ℕ) → Option (List ℕ) → Type 0
PutsOne P old new = (text : List ℕ) × P text × Appends old new text

-- one was put on a page
abbrev pub PutsOneOn : (List ℕ → Type 0) → Option (List ℕ) → Option (List ℕ) → List ℕ → List ℕ → Type 0
PutsOneOn P old new page left = (text : List ℕ) × P text × Puts text old new page left

-- a prefix was put on a page of one, or of this text, with which each begins
abbrev pub PutsOnePart : List ℕ → (List ℕ → Type 0) → Option (List ℕ) → Option (List ℕ) → List ℕ → List ℕ → ScriptFault → Type 0
PutsOnePart first P old new page left fault = PutsPart first old new page left fault ⊎ ((text : List ℕ) × P text × PutsPart text old new page left fault)

-- a prefix of it was written
abbrev pub BreaksOne : List ℕ → (List ℕ → Type 0) → Option (List ℕ) → Option (List ℕ) → ScriptFault → Type 0
BreaksOne first P old new fault = BreaksOff first old new fault ⊎ ((text : List ℕ) × P text × BreaksOff text old new fault)

-- ---- a script

-- A SCRIPT WAS PLAYED: it was read to the end of the input, has no fault, and what it prints was written
pub record Plays (before after old new : Option (List ℕ)) : Type 0 where
  pub script : List ℕ
  pub text : List ℕ
  pub taken : Consumes before after script
  pub end : IsAtEnd after
  pub printed : IsPlayed script text
  pub put : Appends old new text

-- A SCRIPT IS AT FAULT: what was read has this fault, the end of the input was reached unless the script is too long, and nothing was
-- written
pub record IsBad (before after old new : Option (List ℕ)) (fault : ScriptFault) : Type 0 where
  pub script : List ℕ
  pub taken : Consumes before after script
  pub end : IsAtEnd after ⊎ (fault ≡ TooLong)
  pub fault_is : fault_in script ≡ Some fault
  pub kept : Keeps old new

-- A SCRIPT WAS NOT PLAYED: this was read, a read failed or memory ran out, and nothing was written
pub record IsUnplayed (before after old new : Option (List ℕ)) (fault : ScriptFault) : Type 0 where
  pub read : List ℕ
  pub taken : Consumes before after read
  pub cause : (fault ≡ ReadFailed) ⊎ (fault ≡ NoMemory)
  pub kept : Keeps old new

-- A SCRIPT WAS PLAYED IN PART: it was read to the end of the input, has no fault, and a prefix of what it prints was written, until a
-- write failed or memory ran out
pub record PlaysPart (before after old new : Option (List ℕ)) (fault : ScriptFault) : Type 0 where
  pub script : List ℕ
  pub front : List ℕ
  pub taken : Consumes before after script
  pub end : IsAtEnd after
  pub cause : IsOfSystem fault
  pub printed : IsPlayedPart script front
  pub put : Appends old new front

-- THE PLAYING OF A SCRIPT IS CUT SHORT: before it began, or later
abbrev pub IsCut : Option (List ℕ) → Option (List ℕ) → Option (List ℕ) → Option (List ℕ) → ScriptFault → Type 0
IsCut before after old new fault = IsUnplayed before after old new fault ⊎ PlaysPart before after old new fault

-- a fault that stops the playing of a script: it is cut short, with status 1, or the script is at fault, with status 2
abbrev pub Stops : Option (List ℕ) → Option (List ℕ) → Option (List ℕ) → Option (List ℕ) → ScriptFault → Type 0
Stops before after old new fault =
    ((status_of fault ≡ 1) × IsCut before after old new fault) ⊎ ((status_of fault ≡ 2) × IsBad before after old new fault)

-- a fault that stops the playing of several nodes: two of them have one name, and nothing was written; or no two have, and just a part
-- of what they print was written
abbrev pub StopsWorld : List Setup → List Happening → Option (List ℕ) → Option (List ℕ) → ScriptFault → Type 0
StopsWorld setups happenings old new fault =
    ((fault ≡ SameName) × (names_repeat setups ≡ true) × Keeps old new)
    ⊎ ((names_repeat setups ≡ false) × BreaksOne (happenings_text (empty setups) happenings) (IsPrintedFrom (empty setups) happenings) old new fault)

-- the line of the end that the last happening closed, if one applied
abbrev pub closed_after : ℕ → Option (ℕ × (EndId × Why)) → List ℕ
closed_after applied closed = if nat_lt 0 applied then closed_now closed else []
