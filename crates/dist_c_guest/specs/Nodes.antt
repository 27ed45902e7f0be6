-- The contracts of the exports that make a node, let it go or ask it.
use Rattle.std.specs.Prelude.{◌≡◌, ℕ, true, false, MatchBool, ◌⊎◌, ◌||◌, ◌==◌, if◌then◌else◌, List, [], length, nat_le, Option, Some, None, Result, Ok, Err}
use Rattle.std.specs.FinMap as map
use Rattle.dist_names.specs.{NodeName.name_of_bytes, Order.Name, declared.name_error.NameError.NameError}
use Rattle.dist_secret.specs.declared.cookie_error.CookieError.{CookieError}
use Rattle.dist_peers.specs.{declared.entry.EndId.EndId, Table.up_behind}
use Rattle.dist_core_ends.specs.{Ends.table_of, Ends.up_from, declared.known.UpRecord.UpRecord}
use Rattle.dist_core_setup.specs.declared.version.Version.TheVariants.{Five, Six}
use Rattle.dist_core_setup.specs.{declared.setup.Setup.Setup, declared.limits.Limits.Limits, Limits.long_running_limits, declared.version.Version.Version}
use Rattle.dist_c_guest.specs.Steps.{CopiesIf}
use Rattle.dist_c_guest.specs.{Calls.first_guest, Reading.plain, Whole.is_whole, declared.guest.Guest.Guest, declared.making.DnSetup.DnSetup}
use Rattle.dist_c_guest.specs.{declared.making.DnPeer.DnPeer, Codes.name_code, Codes.cookie_code, Replies.creation_number, Replies.is_known}

-- a guest of a node without ends, to which DFLAG_MANDATORY_25_DIGEST stands for these flags
abbrev pub first_reader : Setup → ℕ → Guest
first_reader setup mandatory = record (first_guest setup) { reading = record plain { mandatory = record { 0 = mandatory } } }

-- THERE IS SUCH A GUEST where it is whole; there is none where it isn't (50), or where memory ran out
abbrev pub MakesGuest : Setup → ℕ → ℕ → Option Guest → Type 0
MakesGuest setup mandatory code new =
    ((code ≡ 0) × (is_whole setup mandatory ≡ true) × (new ≡ Some (first_reader setup mandatory)))
    ⊎ ((code ≡ 50) × (is_whole setup mandatory ≡ false) × (new ≡ None)) ⊎ ((code ≡ 3) × (new ≡ None))

-- the version of a number: 0 stands for 6
abbrev pub version_of : ℕ → Option Version
version_of n = if n == 5 then Some Five else (if (n == 6) || (n == 0) then Some Six else None)

-- no peer may connect that is not allowed later, or every peer may
abbrev pub limit_of : ℕ → Option (List Name)
limit_of n = if n == 0 then None else Some []

-- the number that was given, where 0 stands for another one
abbrev pub number_or : ℕ → ℕ → ℕ
number_or other n = if n == 0 then other else n

-- the limits that numbers give: 0 stands for that of a node that runs for years
abbrev pub limits_in : DnSetup → Limits
limits_in u =
    let most = long_running_limits in
    record {
      steps = number_or most.steps u.most_steps;
      ends = number_or most.ends u.most_ends;
      entries = number_or most.entries u.most_entries;
      open_ends = number_or most.open_ends u.most_open_ends;
    }

-- the setup of a name, a cookie for all peers, a version and numbers
abbrev pub setup_of : Name → List ℕ → Version → DnSetup → Setup
setup_of name cookie v u = record {
  name = name;
  cookies = record { usual = cookie; own = [] };
  version = v;
  flags = record { 0 = u.flags };
  required = record { 0 = u.required };
  creation = record { 0 = u.creation };
  allow = limit_of u.limited;
  limits = limits_in u;
}

-- a name and a cookie are read, or the first reason why not; memory runs out only where there is no such reason
abbrev pub ReadsBoth : Result (List ℕ × List ℕ) ℕ → Result (List ℕ) NameError → Result (List ℕ) CookieError → Type 0
ReadsBoth (Ok x) name cookie = (name ≡ Ok x.0) × (cookie ≡ Ok x.1)
ReadsBoth (Err code) (Err e) cookie = code ≡ name_code e
ReadsBoth (Err code) (Ok name) (Err e) = code ≡ cookie_code e
ReadsBoth (Err code) (Ok name) (Ok cookie) = code ≡ 3

-- a new node, or the first reason why there is none; one that is there stays
abbrev pub News : Option Version → Result (List ℕ) NameError → Result (List ℕ) CookieError → DnSetup → ℕ →
    Option Guest → Option Guest → Type 0
News version name cookie u code (Some s) new = (code ≡ 2) × (new ≡ Some s)
News None name cookie u code None new = (code ≡ 6) × (new ≡ None)
News (Some v) (Err e) cookie u code None new = (code ≡ name_code e) × (new ≡ None)
News (Some v) (Ok name) (Err e) u code None new = (code ≡ cookie_code e) × (new ≡ None)
News (Some v) (Ok name) (Ok cookie) u code None new = MakesGuest (setup_of name cookie v u) u.mandatory_25 code new

-- none is left
abbrev pub Frees : {X : Type 0} → ℕ → Option X → Option X → Type 0
Frees code None new = (code ≡ 1) × (new ≡ None)
Frees code (Some s) new = (code ≡ 0) × (new ≡ None)

-- what is reported of a record
abbrev pub peer_of : EndId → UpRecord → DnPeer
peer_of id r = record { name = length r.peer; common = r.common.0; id = id.0; creation = creation_number r.creation; has_creation = is_known r.creation }

-- a record is reported and its name copied; there is none (6)
abbrev pub Returns : Option (EndId × UpRecord) → ℕ → DnPeer → DnPeer → List ℕ → List ℕ → Type 0
Returns None code was is old new = (code ≡ 6) × (is ≡ was) × (new ≡ old)
Returns (Some x) code was is old new = (is ≡ peer_of x.0 x.1) × CopiesIf (nat_le (length x.1.peer) (length old)) x.1.peer code old new

-- the peer that is up and comes first behind this name, or first of all, in the order of names
abbrev pub next_of : Option (List ℕ) → Guest → Option (EndId × UpRecord)
next_of name s = up_from s.node.ends (up_behind name (map.entries (table_of s.node.ends)))

-- the peer behind a name is reported, or the reason why the name is none; memory may run out for the name (3)
abbrev pub ReportsBehind : Result (List ℕ) NameError → ℕ → Guest → DnPeer → DnPeer → List ℕ → List ℕ → Type 0
ReportsBehind (Ok p) code s was is old new = Returns (next_of (Some p) s) code was is old new ⊎ ((code ≡ 3) × (is ≡ was) × (new ≡ old))
ReportsBehind (Err e) code s was is old new = (code ≡ name_code e) × (is ≡ was) × (new ≡ old)

-- THE NEXT PEER behind the name of these bytes, or the first where there are none
abbrev pub ReportsNext : List ℕ → ℕ → Guest → DnPeer → DnPeer → List ℕ → List ℕ → Type 0
ReportsNext name code s was is old new = MatchBool (length name == 0)
    (Returns (next_of None s) code was is old new) (ReportsBehind (name_of_bytes name) code s was is old new)
