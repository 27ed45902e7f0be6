-- The ends of a node, and the entries that they make.
use Rattle.std.specs.Prelude.{◌≡◌, ℕ, suc, ◌==◌, Bool, true, false, ◌&&◌, if◌then◌else◌, List, [], ◌∷◌, Option, Some, None, Result, Ok, Err, slice_get}
use Rattle.std.specs.{Borrow.Bor, Option.option_map, List.filter_map}
use Rattle.std.specs.FinMap as map
use Rattle.dist_names.specs.Order.{Name, same_name}
use Rattle.dist_peers.specs.Verdicts.{ruling, is_greater}
use Rattle.dist_peers.specs.{declared.entry.EndId.EndId, Table.Table, declared.entry.Entry.Entry, declared.entry.Verdict.Verdict}
use Rattle.dist_peers.specs.declared.entry.Entry.TheVariants as entry
pub use Rattle.dist_peers.specs.Table.{up_id, up_ids}
use Rattle.dist_core_ends.specs.declared.{phase.Absent.Absent, phase.Still.Still, phase.Awaited.Awaited, phase.Kind.Kind, phase.Kind.TheVariants.Out}
use Rattle.dist_core_ends.specs.declared.{phase.Kind.TheVariants.In, phase.Kind.TheVariants.Up, phase.Phase.Phase, known.UpRecord.UpRecord, known.End.End}
use Rattle.dist_core_ends.specs.declared.phase.Absent.TheVariants as absent
use Rattle.dist_core_ends.specs.declared.phase.Still.TheVariants as still
use Rattle.dist_core_ends.specs.declared.phase.Awaited.TheVariants as awaited
use Rattle.dist_core_ends.specs.declared.phase.Phase.TheVariants as phase
use Rattle.dist_core_ends.specs.declared.known.End.TheVariants as ends

-- an attempt holds its peer as dialled or as accepted, unless it is doomed
abbrev pub kind_in : Phase → Option Kind
kind_in phase.Dialing = Some Out
kind_in phase.DoomedDialing = None
kind_in phase.AwaitStatus = Some Out
kind_in phase.Doomed = None
kind_in phase.AwaitChallenge = Some Out
kind_in phase.AwaitAck = Some Out
kind_in phase.AwaitTrue = Some In
kind_in phase.AwaitComplement = Some In
kind_in phase.AwaitReply = Some In

-- the peer that an end holds, and how
pub record Claim : Type 0 where
  pub peer : Name
  pub kind : Kind

abbrev pub claim_of : End → Option Claim
claim_of ends.Unnamed = None
claim_of (ends.Attempt a) = option_map (λ k. record { peer = a.peer; kind = k }) (kind_in a.phase)
claim_of (ends.Up r) = Some (record { peer = r.peer; kind = Up })
claim_of (ends.Closed w) = None

abbrev pub same_kind : Kind → Kind → Bool
same_kind Out Out = true
same_kind Out In = false
same_kind Out Up = false
same_kind In Out = false
same_kind In In = true
same_kind In Up = false
same_kind Up Out = false
same_kind Up In = false
same_kind Up Up = true

abbrev pub is_claim : Name → Kind → Option Claim → Bool
is_claim p k None = false
is_claim p k (Some c) = same_kind k c.kind && same_name p c.peer

-- the end holds p in this way
abbrev pub holds : Name → Kind → End → Bool
holds p k e = is_claim p k (claim_of e)

-- the number of the first end that passes the test
abbrev pub first_of : (End → Bool) → List End → Option ℕ
first_of test [] = None
first_of test (e ∷ es) = if test e then Some 0 else option_map suc (first_of test es)

abbrev pub end_id : ℕ → EndId
end_id i = record { 0 = i }

-- the entry, by the ends that hold the peer: the one that is up, the accepted one, the dialled one
abbrev pub entry_from : Option ℕ → Option ℕ → Option ℕ → Option Entry
entry_from None None None = None
entry_from None None (Some x) = Some (entry.Out (end_id x))
entry_from None (Some y) o = Some (entry.In (end_id y))
entry_from (Some x) None o = Some (entry.Up (end_id x))
entry_from (Some x) (Some y) o = Some (entry.Challenged (end_id x) (end_id y))

-- THE ENTRY OF A PEER
abbrev pub entry_in : List End → Name → Option Entry
entry_in es p = entry_from (first_of (holds p Up) es) (first_of (holds p In) es) (first_of (holds p Out) es)

-- the row of the peer that an end holds
abbrev pub row_in : List End → Option Claim → Option (Name × Entry)
row_in es None = None
row_in es (Some c) = option_map (λ x. (c.peer, x)) (entry_in es c.peer)

-- all entries
abbrev pub table_of : List End → Table
table_of es = map.from_entries (filter_map (λ e. row_in es (claim_of e)) es)

-- the entry names end i as one that holds the peer in this way
abbrev pub names : Kind → ℕ → Option Entry → Bool
names k i None = false
names Out i (Some (entry.Out x)) = x.0 == i
names Out i (Some (entry.In x)) = false
names Out i (Some (entry.Up x)) = false
names Out i (Some (entry.Challenged up x)) = false
names In i (Some (entry.Out x)) = false
names In i (Some (entry.In x)) = x.0 == i
names In i (Some (entry.Up x)) = false
names In i (Some (entry.Challenged up x)) = x.0 == i
names Up i (Some (entry.Out x)) = false
names Up i (Some (entry.In x)) = false
names Up i (Some (entry.Up x)) = x.0 == i
names Up i (Some (entry.Challenged up x)) = up.0 == i

abbrev pub is_held : Name → Kind → Option End → Bool
is_held p k None = false
is_held p k (Some e) = holds p k e

-- end i holds p in this way
abbrev pub holds_at : List End → Name → Kind → ℕ → Bool
holds_at es p k i = is_held p k (slice_get es i)

-- the entries t and the ends agree: an end holds a peer exactly where the peer's entry names the end so
abbrev pub Agree : (Name → Option Entry) → List End → Type 0
Agree t es = (p : Name) (k : Kind) (i : ℕ) → holds_at es p k i ≡ names k i (t p)

-- the ends that hold a peer are exactly those that its entry names
abbrev pub AreLegal : List End → Type 0
AreLegal es = Agree (entry_in es) es

abbrev pub is_open : End → Bool
is_open ends.Unnamed = true
is_open (ends.Attempt a) = true
is_open (ends.Up r) = true
is_open (ends.Closed w) = false

-- the end is open, and not up: its handshake goes on, or no name has come yet
abbrev pub is_pending : End → Bool
is_pending ends.Unnamed = true
is_pending (ends.Attempt a) = true
is_pending (ends.Up r) = false
is_pending (ends.Closed w) = false

-- the end was accepted, and no name came on it yet
abbrev pub is_unnamed : End → Bool
is_unnamed ends.Unnamed = true
is_unnamed (ends.Attempt a) = false
is_unnamed (ends.Up r) = false
is_unnamed (ends.Closed w) = false

-- THE OLDEST PENDING END, AND THE OLDEST ON WHICH NO NAME CAME: the one of the lowest number, since numbers are given out in order
abbrev pub oldest_pending : List End → Option EndId
oldest_pending es = option_map end_id (first_of is_pending es)

abbrev pub oldest_unnamed : List End → Option EndId
oldest_unnamed es = option_map end_id (first_of is_unnamed es)

-- the attempt was dialled, and there is no connection yet
abbrev pub waits_in : Phase → Bool
waits_in phase.Dialing = true
waits_in phase.DoomedDialing = true
waits_in _ = false

-- the end is open and awaits its connection
abbrev pub is_dialing : Option End → Bool
is_dialing (Some (ends.Attempt a)) = waits_in a.phase
is_dialing _ = false

-- what an attempt awaits: a message of the other side, or its connection
abbrev pub awaited_in : Phase → Awaited
awaited_in phase.Dialing = awaited.Connection
awaited_in phase.DoomedDialing = awaited.Connection
awaited_in phase.AwaitStatus = awaited.Status
awaited_in phase.Doomed = awaited.Status
awaited_in phase.AwaitChallenge = awaited.Challenge
awaited_in phase.AwaitAck = awaited.Ack
awaited_in phase.AwaitTrue = awaited.Status
awaited_in phase.AwaitComplement = awaited.Complement
awaited_in phase.AwaitReply = awaited.Reply

-- WHAT AN OPEN END AWAITS: an accepted end first the name, and an end that is up nothing more
abbrev pub awaited_of : Option End → Option Awaited
awaited_of None = None
awaited_of (Some ends.Unnamed) = Some awaited.Name
awaited_of (Some (ends.Attempt a)) = Some (awaited_in a.phase)
awaited_of (Some (ends.Up r)) = Some awaited.Nothing
awaited_of (Some (ends.Closed w)) = None

abbrev pub record_in : EndId → Option End → Option (EndId × UpRecord)
record_in x (Some (ends.Up r)) = Some (x, r)
record_in x _ = None

abbrev pub up_from : List End → Option EndId → Option (EndId × UpRecord)
up_from es None = None
up_from es (Some x) = record_in x (slice_get es x.0)

-- the end is up with this peer, and this is its record
abbrev pub IsUpWith : List End → Name → EndId → UpRecord → Type 0
IsUpWith es p x r = (slice_get es x.0 ≡ Some (ends.Up r)) × (r.peer ≡ p)

-- the number of an end, and its record
abbrev pub up_pair : ℕ → UpRecord → Option (EndId × UpRecord)
up_pair i r = Some (end_id i, r)

-- what was found is the end that is up with this peer
abbrev pub FindsUp : List End → Name → Option (EndId × UpRecord) → Type 0
FindsUp es p None = Unit {0}
FindsUp es p (Some r) = IsUpWith es p r.0 r.1

-- how an end stands
abbrev pub still_of : Option End → Still
still_of None = still.NoSuchEnd
still_of (Some (ends.Closed w)) = still.Gone w
still_of (Some (ends.Up r)) = still.Up
still_of (Some e) = still.Pending

-- what is found of an end: the end, where it is open, else why no open end has the number
abbrev pub Finds : Result (Bor End) Absent → Option End → Type 0
Finds (Ok e) o = (o ≡ Some e.now) × (is_open e.now ≡ true)
Finds (Err absent.NoSuchEnd) o = o ≡ None
Finds (Err (absent.Gone w)) o = o ≡ Some (ends.Closed w)

-- the verdict on a name that comes on this end, at a node of name me
abbrev pub verdict_of : Name → List End → EndId → Name → Verdict
verdict_of me es id p = let r = ruling (is_greater me p) id (entry_in es p) in r.verdict
