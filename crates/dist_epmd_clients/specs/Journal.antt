-- What happened at a port mapper, and how often.
use Rattle.std.specs.Prelude.{◌≡◌, ℕ, ◌+◌, Bool, true, false, List, [], ◌∷◌, ◌++◌, Option, Some, None, length, nat_lt, if◌then◌else◌}
use Rattle.dist_epmd_clients.specs.declared.{counts.Counts.Counts, event.ClientEvent.ClientEvent, journal.Journal.Journal}
use Rattle.dist_epmd_clients.specs.declared.event.ClientEvent.TheVariants as event

-- whether a log has a line for it: questions that are answered have none
abbrev pub is_line : ClientEvent → Bool
is_line event.LookedUp = false
is_line event.Listed = false
is_line _ = true

-- ---- counts

-- the sum of a count and so many more, and no more than 18,446,744,073,709,551,615
abbrev pub at_most : ℕ → ℕ → ℕ
at_most count more = if nat_lt (count + more) 18446744073709551616 then count + more else 18446744073709551615

-- nothing happened yet
abbrev pub no_counts : Counts
no_counts = record {
  registered = 0;
  ended = 0;
  refused = 0;
  looked_up = 0;
  listed = 0;
  unanswered = 0;
  made_room = 0;
  late = 0;
  no_memory = 0;
  missed = 0;
}

-- the counts with one event more; clients that were late are as many as it says
abbrev pub with_event : ClientEvent → Counts → Counts
with_event (event.Registered conn name port) c = record c { registered = at_most c.registered 1 }
with_event (event.Ended conn name) c = record c { ended = at_most c.ended 1 }
with_event (event.Refused conn name taken) c = record c { refused = at_most c.refused 1 }
with_event event.LookedUp c = record c { looked_up = at_most c.looked_up 1 }
with_event event.Listed c = record c { listed = at_most c.listed 1 }
with_event (event.Unanswered conn local) c = record c { unanswered = at_most c.unanswered 1 }
with_event (event.MadeRoom conn) c = record c { made_room = at_most c.made_room 1 }
with_event (event.Late count) c = record c { late = at_most c.late count }
with_event (event.NoMemory conn) c = record c { no_memory = at_most c.no_memory 1 }

-- the counts with one event more that is kept nowhere
abbrev pub missing : Counts → Counts
missing c = record c { missed = at_most c.missed 1 }

-- ---- the journal

-- its counts
abbrev pub counts_in : Journal → Counts
counts_in journal = journal.counts

-- the events that wait for whoever reads them, the oldest first
abbrev pub events_in : Journal → List ClientEvent
events_in journal = journal.events.items

-- how many may wait
abbrev pub most_in : Journal → ℕ
most_in journal = journal.most

-- the journal where one event more is missed
abbrev pub with_miss : Journal → Journal
with_miss journal = record journal { counts = missing journal.counts }

-- A journal has these events, that wait, and all else of another.
pub record HasEvents (these : List ClientEvent) (old new : Journal) : Type 0 where
  pub events : events_in new ≡ these
  pub counts : counts_in new ≡ counts_in old
  pub most : most_in new ≡ most_in old

-- what becomes of an event, by whether one more may wait
abbrev pub ListsWhere : Bool → ClientEvent → Journal → Journal → Type 0
ListsWhere true e old new = HasEvents (events_in old ++ e ∷ []) old new
ListsWhere false e old new = new ≡ with_miss old

-- AN EVENT IS KEPT behind those that wait where fewer wait than may, and otherwise it is missed. Its memory was taken before.
abbrev pub Lists : ClientEvent → Journal → Journal → Type 0
Lists e old new = ListsWhere (nat_lt (length (events_in old)) (most_in old)) e old new

-- the journal where an event is counted, and not kept
abbrev pub with_count : ClientEvent → Journal → Journal
with_count e journal = record journal { counts = with_event e journal.counts }

-- an event is counted, and kept where a log has a line for it
abbrev pub Notes : Bool → ClientEvent → Journal → Journal → Type 0
Notes true e old new = Lists e (with_count e old) new
Notes false e old new = new ≡ with_count e old

-- WHAT A JOURNAL MAKES OF WHAT HAPPENED, if anything did
abbrev pub Journals : Option ClientEvent → Journal → Journal → Type 0
Journals None old new = new ≡ old
Journals (Some e) old new = Notes (is_line e) e old new
