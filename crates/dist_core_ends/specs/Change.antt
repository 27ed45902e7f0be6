-- How a change of one end, and perhaps of a second one, changes the ends and the table of entries.
use Rattle.std.specs.Prelude.{◌≡◌, ℕ, ◌==◌, Bool, ◌<◌, ◌≤◌, true, false, nat_lt, if◌then◌else◌}
use Rattle.std.specs.Prelude.{List, [], ◌∷◌, ◌++◌, length, Option, Some, None, IsSome, slice_get, slice_set}
use Rattle.std.specs.FinMap as map
use Rattle.dist_names.specs.Order.{Name, same_name}
use Rattle.dist_peers.specs.Table.{Table, entry_of, with_entry, left_by, is_waiting}
use Rattle.dist_peers.specs.{declared.entry.EndId.EndId, Verdicts.ruling, Verdicts.is_greater}
use Rattle.dist_peers.specs.declared.entry.Entry.TheVariants as entry
use Rattle.dist_core_ends.specs.Ends.{Claim, claim_of, is_pending, is_unnamed, Agree}
use Rattle.dist_core_ends.specs.declared.{phase.Kind.Kind, phase.Kind.TheVariants.Out, phase.Kind.TheVariants.In, phase.Kind.TheVariants.Up, known.End.End}
use Rattle.dist_core_ends.specs.declared.known.End.TheVariants as ends

-- the ends with this one at place i, which may be the place after the last
abbrev pub put_end : List End → ℕ → End → List End
put_end es i e = if nat_lt i (length es) then slice_set es i e else es ++ e ∷ []

abbrev pub put_other : List End → Option (EndId × End) → List End
put_other es None = es
put_other es (Some x) = slice_set es (let y = x.0 in y.0) x.1

-- WHAT A STEP CHANGES: one end, and at most one other
abbrev pub with_change : List End → EndId → End → Option (EndId × End) → List End
with_change es id this other = put_other (put_end es id.0 this) other

-- what stands at place i: the other changed end where that is its place, else what g has
abbrev pub other_view : Option (EndId × End) → (ℕ → Option End) → ℕ → Option End
other_view None g i = g i
other_view (Some x) g i = if (let y = x.0 in y.0) == i then Some x.1 else g i

-- WHAT STANDS AT EACH PLACE AFTER A CHANGE
abbrev pub view_after : List End → EndId → End → Option (EndId × End) → ℕ → Option End
view_after es id this other = other_view other (λ i. if id.0 == i then Some this else slice_get es i)

-- 1 for true, 0 for false
abbrev pub one_if : Bool → ℕ
one_if true = 1
one_if false = 0

-- ---- the entries

-- an end begins to hold a peer
abbrev pub table_after_entry : Table → Name → EndId → Name → Kind → Table
table_after_entry t me id p Out = map.insert t p (entry.Out id)
table_after_entry t me id p In = map.insert t p (let r = ruling (is_greater me p) id (entry_of t p) in r.entry)
table_after_entry t me id p Up = t

-- an end holds its peer in another way
abbrev pub table_after_rise : Table → EndId → Name → Kind → Kind → Table
table_after_rise t id p Out Up = map.insert t p (entry.Up id)
table_after_rise t id p In Up = map.insert t p (entry.Up id)
table_after_rise t id p old new = t

-- the table once what this end holds has changed
abbrev pub table_after_shift : Table → Name → EndId → Option Claim → Option Claim → Table
table_after_shift t me id None None = t
table_after_shift t me id None (Some c) = table_after_entry t me id c.peer c.kind
table_after_shift t me id (Some d) None = with_entry t d.peer (left_by id (entry_of t d.peer))
table_after_shift t me id (Some d) (Some c) = table_after_rise t id c.peer d.kind c.kind

abbrev pub AsksEnter : Table → Name → Name → Kind → Type 0
AsksEnter t me p In = same_name me p ≡ false
AsksEnter t me p Out = entry_of t p ≡ None
AsksEnter t me p Up = Unit {0}

abbrev pub AsksRaise : Table → EndId → Name → Kind → Kind → Type 0
AsksRaise t id p Out Up = is_waiting id (entry_of t p) ≡ true
AsksRaise t id p In Up = is_waiting id (entry_of t p) ≡ true
AsksRaise t id p old new = Unit {0}

-- what such a change requires
abbrev pub AsksShift : Table → Name → EndId → Option Claim → Option Claim → Type 0
AsksShift t me id None None = Unit {0}
AsksShift t me id None (Some c) = AsksEnter t me c.peer c.kind
AsksShift t me id (Some d) None = Unit {0}
AsksShift t me id (Some d) (Some c) = AsksRaise t id c.peer d.kind c.kind

-- what an end held, where the end is there already
abbrev pub claim_at : Option End → Option Claim
claim_at None = None
claim_at (Some e) = claim_of e

-- the peer that an end holds has an entry
abbrev pub HasEntry : Table → Option Claim → Type 0
HasEntry t None = Unit {0}
HasEntry t (Some c) = IsSome (entry_of t c.peer)

-- the table after end id became this one
abbrev pub table_after : Name → List End → Table → EndId → End → Table
table_after me es t id this = table_after_shift t me id (claim_at (slice_get es id.0)) (claim_of this)

abbrev pub IsThere : List End → Option (EndId × End) → Type 0
IsThere es None = Unit {0}
IsThere es (Some x) = (let y = x.0 in y.0) < length es

-- an end that is closed stays as it is, one that is up stays so until it is closed, and an attempt never becomes nameless
abbrev pub StaysClosed : Option End → End → Type 0
StaysClosed None e = Unit {0}
StaysClosed (Some ends.Unnamed) e = Unit {0}
StaysClosed (Some (ends.Attempt a)) e = is_unnamed e ≡ false
StaysClosed (Some (ends.Up r)) e = is_pending e ≡ false
StaysClosed (Some (ends.Closed w)) e = e ≡ ends.Closed w

abbrev pub OtherStaysClosed : List End → Option (EndId × End) → Type 0
OtherStaysClosed es None = Unit {0}
OtherStaysClosed es (Some x) = StaysClosed (slice_get es (let y = x.0 in y.0)) x.1

-- the change is possible at a node of name me, with these ends and the table that they make
pub record Fits (me : Name) (es : List End) (t : Table) (id : EndId) (this : End) (other : Option (EndId × End)) : Type 0 where
  pub place : id.0 ≤ length es
  pub other_there : IsThere es other
  pub stays : StaysClosed (slice_get es id.0) this
  pub other_stays : OtherStaysClosed (put_end es id.0 this) other
  pub asks : AsksShift t me id (claim_at (slice_get es id.0)) (claim_of this)
  pub agree : Agree (map.get (table_after me es t id this)) (with_change es id this other)
