-- What is reported of a peer's entry.
use Rattle.std.specs.Prelude.{◌≡◌, ℕ, ◌⊎◌, List, Option, Some, None, Result, Ok, Err}
use Rattle.dist_names.specs.declared.name_error.NameError.{NameError}
use Rattle.dist_peers.specs.declared.entry.Entry.{Entry, TheVariants.Out, TheVariants.In, TheVariants.Up, TheVariants.Challenged}
use Rattle.dist_core_ends.specs.Ends.{entry_in}
use Rattle.dist_c_guest.specs.{declared.guest.Guest.Guest, declared.entries.DnEntry.DnEntry, Codes.name_code, Steps.Silent}

-- what is reported of an entry: the number of its state, the end that is up, and the one that is not, each 0 where there is none
abbrev pub entry_report : Option Entry → DnEntry
entry_report None = record { state = 0; up = 0; pending = 0 }
entry_report (Some (Out x)) = record { state = 1; up = 0; pending = x.0 }
entry_report (Some (In x)) = record { state = 2; up = 0; pending = x.0 }
entry_report (Some (Up x)) = record { state = 3; up = x.0; pending = 0 }
entry_report (Some (Challenged x y)) = record { state = 4; up = x.0; pending = y.0 }

-- the entry of the peer of this name is reported, or why the bytes are no name; memory may run out for the name (3)
abbrev pub ReportsEntry : Result (List ℕ) NameError → ℕ → Guest → DnEntry → DnEntry → Type 0
ReportsEntry (Ok p) code s was is = ((code ≡ 0) × (is ≡ entry_report (entry_in s.node.ends p))) ⊎ Silent 3 code was is
ReportsEntry (Err e) code s was is = Silent (name_code e) code was is
