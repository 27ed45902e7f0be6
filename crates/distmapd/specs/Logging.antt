-- WHAT A LOG WRITES: lines of what happened, and nothing else.
use Rattle.std.specs.Prelude.{◌≡◌, ◌⊎◌, ℕ, List, [], ◌∷◌, Option, take}
use Rattle.std.specs.Io.KnownBytes.{Appends, Keeps}
use Rattle.dist_epmd_clients.specs.declared.event.ClientEvent.{ClientEvent}
use Rattle.distmapd.specs.{declared.lines.Round.Round, declared.settings.LogForm.LogForm, Lines.event_line, Lines.left_out_line}

-- a line is written, or a front of it, or nothing
abbrev pub PutsFront : List ℕ → Option (List ℕ) → Option (List ℕ) → Type 0
PutsFront line before after = Keeps before after ⊎ ((count : ℕ) × Appends before after (take count line))

-- the lines of these events, one after the other
abbrev pub LogsEvents : LogForm → Round → List ClientEvent → Option (List ℕ) → Option (List ℕ) → Type 0
LogsEvents form r [] before after = after ≡ before
LogsEvents form r (e ∷ es) before after = (between : Option (List ℕ)) × PutsFront (event_line form r e) before between × LogsEvents form r es between after

-- the line that says how many were left out
abbrev pub ReportsLeftOut : LogForm → Round → Option (List ℕ) → Option (List ℕ) → Type 0
ReportsLeftOut form r before after = (count : ℕ) × PutsFront (left_out_line form r count) before after

-- WHAT IS WRITTEN IN A ROUND: how many lines were left out, then the lines of its events, in order; each whole, or a front of it, or not
abbrev pub LogsRound : LogForm → Round → List ClientEvent → Option (List ℕ) → Option (List ℕ) → Type 0
LogsRound form r events before after = (between : Option (List ℕ)) × ReportsLeftOut form r before between × LogsEvents form r events between after
