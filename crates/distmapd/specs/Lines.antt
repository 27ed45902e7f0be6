-- WHAT THE LINES OF THE LOG SAY: which word, and which members.
use Rattle.std.specs.Prelude.{ℕ, Bool, true, false, List, [], ◌∷◌, codes}
use Rattle.std.specs.{BTreeMap.get, Ordering.nat_cmp}
use Rattle.dist_epmd_clients.specs.declared.event.ClientEvent.{ClientEvent}
use Rattle.dist_epmd_clients.specs.declared.event.ClientEvent.TheVariants as event
use Rattle.distmapd.specs.Members.{Member, Shown, line}
use Rattle.distmapd.specs.declared.{lines.Round.Round, lines.TheConstants.TAKEN, lines.TheConstants.NOT_TAKEN, lines.TheConstants.UNSERVED}
use Rattle.distmapd.specs.declared.{lines.TheConstants.UNSERVED_THERE, settings.LogForm.LogForm}
use Rattle.distmapd.specs.declared.settings.LogForm.TheVariants as form

-- the connection of a client, and its address
abbrev pub client : Round → ℕ → List Member
client r conn = (codes "connection", Shown.number conn) ∷ (codes "address", Shown.host (get nat_cmp r.addresses.now conn)) ∷ []

-- why something was refused: a sentence for people, the condition for programs
abbrev pub reason : LogForm → List ℕ → Bool → List ℕ → List ℕ → Member
reason form.Text key true if_so if_not = (codes "why", Shown.text if_so)
reason form.Text key false if_so if_not = (codes "why", Shown.text if_not)
reason form.Json key holds if_so if_not = (key, Shown.truth holds)

-- THE LINE OF AN EVENT in the log; a question that was answered has none
abbrev pub event_line : LogForm → Round → ClientEvent → List ℕ
event_line f r (event.Registered conn name port) =
    line f r.time.now (codes "registered") (client r conn) ((codes "name", Shown.name name) ∷ (codes "port", Shown.number port) ∷ [])
event_line f r (event.Ended conn name) = line f r.time.now (codes "ended") (client r conn) ((codes "name", Shown.name name) ∷ [])
event_line f r (event.Refused conn name taken) =
    line f r.time.now (codes "refused") (client r conn) ((codes "name", Shown.name name) ∷ reason f (codes "taken") taken TAKEN.now NOT_TAKEN.now ∷ [])
event_line f r (event.Unanswered conn local) =
    line f r.time.now (codes "unanswered") (client r conn) (reason f (codes "local") local UNSERVED.now UNSERVED_THERE.now ∷ [])
event_line f r (event.MadeRoom conn) = line f r.time.now (codes "made_room") (client r conn) []
event_line f r (event.NoMemory conn) = line f r.time.now (codes "no_memory") (client r conn) []
event_line f r (event.Late count) = line f r.time.now (codes "late") ((codes "connections", Shown.number count) ∷ []) []
event_line f r event.LookedUp = []
event_line f r event.Listed = []

-- the line that says how many lines were left out
abbrev pub left_out_line : LogForm → Round → ℕ → List ℕ
left_out_line f r count = line f r.time.now (codes "left_out") ((codes "lines", Shown.number count) ∷ []) []
