-- Where ends are kept: open ends in slots; of a closed end only its cause. No public contract speaks of it.
use Rattle.std.specs.Prelude.{◌≡◌, ◌≢◌, ℕ, zero, suc, ◌+◌, ◌<◌, ◌≤◌, Bool, true, false, List, [], ◌∷◌, length, Option, Some, None}
use Rattle.std.specs.Prelude.{is_some, slice_get, slice_index_or, count_by}
use Rattle.std.specs.FinMap as map
use Rattle.slab.specs.Slab.{Slab, slab_len}
use Rattle.dist_peers.specs.Table.{Table}
use Rattle.dist_core_ends.specs.Ends.{is_open, is_pending, is_unnamed, Agree}
use Rattle.dist_core_ends.specs.declared.{known.End.End, slots.EndPlace.EndPlace, slots.Sought.Sought}
use Rattle.dist_core_ends.specs.declared.why.Why.TheVariants as why
use Rattle.dist_core_ends.specs.declared.known.End.TheVariants as ends
use Rattle.dist_core_ends.specs.declared.slots.EndPlace.TheVariants as row
use Rattle.dist_core_ends.specs.declared.slots.Sought.TheVariants as sought

-- all ends, by their numbers, and how many more fit without taking memory
pub record RoomyEnds : Type 0 where
  pub items : List End
  pub room : ℕ

abbrev pub Slots : Type 0
Slots = List (Option End)

-- what stands in a slot
abbrev pub in_slot : Slots → ℕ → Option End
in_slot slots k = slice_index_or slots k None

-- the end that was found; it is never absent
abbrev pub found_end : Option End → End
found_end None = ends.Unnamed
found_end (Some e) = e

-- the end of a row
abbrev pub end_of_row : Slots → EndPlace → End
end_of_row slots (row.Slot k) = found_end (in_slot slots k)
end_of_row slots (row.Closed w) = ends.Closed w

-- THE ENDS, by their numbers
abbrev pub ends_of_rows : List EndPlace → Slots → List End
ends_of_rows [] slots = []
ends_of_rows (r ∷ rows) slots = end_of_row slots r ∷ ends_of_rows rows slots

-- an open end stands in the slot
pub record IsFull (slots : Slots) (k : ℕ) : Type 0 where
  pub kept : End
  pub there : in_slot slots k ≡ Some kept
  pub opened : is_open kept ≡ true

-- each row's slot has an open end, no two rows have the same slot, and there are no further ends
pub record AreKept (rows : List EndPlace) (slots : Slots) : Type 0 where
  pub full : (i k : ℕ) → slice_get rows i ≡ Some (row.Slot k) → IsFull slots k
  pub apart : (i j k : ℕ) → slice_get rows i ≡ Some (row.Slot k) → slice_get rows j ≡ Some (row.Slot k) → i ≡ j
  pub counted : count_by is_some slots ≡ count_by is_open (ends_of_rows rows slots)

-- this slot has this end, or none, and every other slot has what it had
pub record Puts (old new : Slots) (k : ℕ) (o : Option End) : Type 0 where
  pub here : in_slot new k ≡ o
  pub others : (other : ℕ) → other ≢ k → in_slot new other ≡ in_slot old other

-- the slot has another end
abbrev pub Refills : Slab End → Slab End → ℕ → End → Type 0
Refills old new k e = Puts old.slots new.slots k (Some e) × (slab_len new ≡ slab_len old)

-- the slot has no end
abbrev pub Empties : Slab End → Slab End → ℕ → Type 0
Empties old new k = Puts old.slots new.slots k None × (slab_len new + 1 ≡ slab_len old)

-- the row of a further end, and the slots then
abbrev pub GivesRow : Slots → Slots → End → EndPlace → Type 0
GivesRow old new e (row.Slot k) = (in_slot old k ≡ None) × Puts old new k (Some e) × (count_by is_some new ≡ count_by is_some old + 1) × (is_open e ≡ true)
GivesRow old new e (row.Closed w) = (new ≡ old) × (e ≡ ends.Closed w)

-- the row of an end without its cause of closing
abbrev pub without_row_cause : EndPlace → EndPlace
without_row_cause (row.Slot k) = row.Slot k
without_row_cause (row.Closed w) = row.Closed why.Ended

-- the rows, without the causes of closing below a number
abbrev pub rows_forgotten : ℕ → List EndPlace → List EndPlace
rows_forgotten b [] = []
rows_forgotten zero (r ∷ rows) = r ∷ rows
rows_forgotten (suc b) (r ∷ rows) = without_row_cause r ∷ rows_forgotten b rows

-- an end of this kind
abbrev pub is_sought : Sought → End → Bool
is_sought sought.Pending e = is_pending e
is_sought sought.Nameless e = is_unnamed e

-- there is an end, and it is of this kind
abbrev pub finds_sought : Sought → Option End → Bool
finds_sought k None = false
finds_sought k (Some e) = is_sought k e

-- no end before this number is of this kind
abbrev pub AreSettled : Sought → List End → ℕ → Type 0
AreSettled k es n = (i : ℕ) → i < n → finds_sought k (slice_get es i) ≡ false

-- the same, for a number that was given out or is the next one
pub record IsPast (k : Sought) (es : List End) (n : ℕ) : Type 0 where
  pub within : n ≤ length es
  pub settled : AreSettled k es n

-- what always holds of the fields of `Ends`
pub record KeepsEnds (peers : Table) (es : List End) (passed named : ℕ) : Type 0 where
  pub agree : Agree (map.get peers) es
  pub pending : IsPast sought.Pending es passed
  pub nameless : IsPast sought.Nameless es named
