-- What is done with a registry of the port mapper in C's memory.
use Rattle.std.specs.Prelude.{◌≡◌, ℕ, ◌+◌, ◌==◌, ◌⊎◌, if◌then◌else◌, List, [], length, Option, Some, None, Result, Ok, Err}
use Rattle.dist_names.specs.Answer.{RefusedBut}
use Rattle.dist_epmd.specs.{declared.epmd_error.EpmdError.EpmdError, declared.message.Request.Request, declared.message.Answer.Answer, Answering.is_want}
use Rattle.dist_epmd.specs.{Registrations.Registrations, Registrations.opening, Registrations.after_closed, Layout.written_answer, Reading.read_request}
use Rattle.dist_epmd.specs.declared.epmd_error.EpmdError.TheVariants as epmd
use Rattle.dist_epmd.specs.declared.message.Answer.TheVariants as answer
use Rattle.dist_epmd_calls.specs.Mapping.{Allows}
use Rattle.distnode_c.specs.Codes.{epmd_code}
use Rattle.distnode_c.specs.declared.{desk.RegistryDesk.RegistryDesk, desk.DeskError.DeskError, registry.DnServed.DnServed}
use Rattle.distnode_c.specs.declared.desk.DeskError.TheVariants as desk
use Rattle.dist_c_guest.specs.Steps.{Copies, Keeps, Silent}

-- 1 where an answer registers the node that asked
abbrev pub registered_number : Answer → ℕ
registered_number (answer.AliveX r c) = if r == 0 then 1 else 0
registered_number (answer.Alive r c) = if r == 0 then 1 else 0
registered_number other = 0

-- a request was answered as the registry's rules allow, and the answer is kept; or memory ran out, and nothing changed
abbrev pub IsAnswered : Result (Unit {0}) EpmdError → ℕ → Request → RegistryDesk → RegistryDesk → Type 0
IsAnswered (Ok u) conn request old new = (given : Answer) × Allows old.registry conn request given new.registry × (new.last ≡ Some given)
IsAnswered (Err e) conn request old new = (e ≡ epmd.NoMemory) × (new ≡ old)

-- the same of the request that a frame's body spells, or why it is refused
abbrev pub IsReceivedIn : Result ℕ DeskError → ℕ → ℕ → Result Request EpmdError → RegistryDesk → RegistryDesk → Type 0
IsReceivedIn (Ok n) conn taken (Ok request) old new = (n ≡ taken) × IsAnswered (Ok tt) conn request old new
IsReceivedIn (Ok n) conn taken (Err e) old new = ⊥
IsReceivedIn (Err desk.Awaits) conn taken read old new = ⊥
IsReceivedIn (Err (desk.Request e)) conn taken read old new = RefusedBut (is_want e) e read × (new ≡ old)

-- the same of the frame at the front of bytes, or none has come whole
abbrev pub IsReceivedByDesk : Result ℕ DeskError → ℕ → Option (List ℕ) → RegistryDesk → RegistryDesk → Type 0
IsReceivedByDesk result conn None old new = (result ≡ Err desk.Awaits) × (new ≡ old)
IsReceivedByDesk result conn (Some body) old new = IsReceivedIn result conn (2 + length body) (read_request body) old new

-- ---- the exports

-- there is a registry without nodes, or memory ran out (3); one that is there stays (2)
abbrev pub Opens : ℕ → ℕ → ℕ → Option RegistryDesk → Option RegistryDesk → Type 0
Opens port first code (Some d) new = Silent 2 code (Some d) new
Opens port first code None new = ((code ≡ 0) × (new ≡ Some (record { registry = opening port first; last = None }))) ⊎ ((code ≡ 3) × (new ≡ None))

-- THE ANSWER, as C has it: one that the rules allow is kept and reported, or memory ran out (3)
abbrev pub Serves : ℕ → Request → ℕ → ℕ → RegistryDesk → Option RegistryDesk → DnServed → DnServed → Type 0
Serves conn request taken code d new was is =
    ((given : Answer) × (after : Registrations) × Allows d.registry conn request given after × (code ≡ 0)
    × (new ≡ Some (record { registry = after; last = Some given })) × (is ≡ record { taken = taken; registered = registered_number given }))
    ⊎ Keeps 3 code (Some d) new was is

-- the same of what a frame's body spells, or why it is refused
abbrev pub ServesBody : ℕ → Result Request EpmdError → ℕ → ℕ → RegistryDesk → Option RegistryDesk → DnServed → DnServed → Type 0
ServesBody conn (Ok request) taken code d new was is = Serves conn request taken code d new was is
ServesBody conn (Err e) taken code d new was is = Keeps (epmd_code e) code (Some d) new was is

-- the same of the frame at the front of bytes, or none has come whole (5)
abbrev pub ServesFront : ℕ → Option (List ℕ) → ℕ → RegistryDesk → Option RegistryDesk → DnServed → DnServed → Type 0
ServesFront conn None code d new was is = Keeps 5 code (Some d) new was is
ServesFront conn (Some body) code d new was is = ServesBody conn (read_request body) (2 + length body) code d new was is

-- the same at a struct that may hold no registry (1)
abbrev pub Asked : ℕ → Option (List ℕ) → ℕ → Option RegistryDesk → Option RegistryDesk → DnServed → DnServed → Type 0
Asked conn front code None new was is = Keeps 1 code None new was is
Asked conn front code (Some d) new was is = ServesFront conn front code d new was is

-- the bytes of the newest answer, and none before the first
abbrev pub answer_text : Option Answer → Result (List ℕ) EpmdError
answer_text None = Ok []
answer_text (Some given) = written_answer given

-- a text is copied, or memory ran out, or the reason why there is no text
abbrev pub CopiesText : Result (List ℕ) EpmdError → ℕ → ℕ → ℕ → List ℕ → List ℕ → Type 0
CopiesText (Ok text) code had len old new = Copies text code len old new ⊎ Keeps 3 code had len old new
CopiesText (Err e) code had len old new = Keeps (epmd_code e) code had len old new

-- the newest answer is copied, where there is a registry (1)
abbrev pub Answers : Option RegistryDesk → ℕ → ℕ → ℕ → List ℕ → List ℕ → Type 0
Answers None code had len old new = Keeps 1 code had len old new
Answers (Some d) code had len old new = CopiesText (answer_text d.last) code had len old new

-- a connection is closed, and what was registered on it is dropped
abbrev pub Closes : ℕ → ℕ → Option RegistryDesk → Option RegistryDesk → Type 0
Closes conn code None new = (code ≡ 1) × (new ≡ None)
Closes conn code (Some d) new = (code ≡ 0) × (new ≡ Some (record d { registry = after_closed conn d.registry }))
