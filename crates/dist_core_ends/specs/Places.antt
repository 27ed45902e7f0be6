-- Where each end is, by its number: from the causes, and from the rows kept beside them. No public contract speaks of it.
use Rattle.std.specs.Prelude.{◌≡◌, ℕ, zero, suc, ◌+◌, ◌≤◌, ◌^◌, Bool, true, false, ◌||◌, if◌then◌else◌, nat_le}
use Rattle.std.specs.Prelude.{List, [], ◌∷◌, ◌++◌, length, replicate, Option, Some, None}
use Rattle.dist_core_ends.specs.declared.{why.Why.Why, slots.EndPlace.EndPlace}
use Rattle.dist_core_ends.specs.declared.why.Why.TheVariants as why
use Rattle.dist_core_ends.specs.declared.slots.EndPlace.TheVariants as row

-- the rows of all ends, by their numbers, and how many more fit without taking memory
pub record RowList : Type 0 where
  pub items : List EndPlace
  pub room : ℕ

-- the row of an end: its own where it has one; otherwise the end is closed, for this cause
abbrev pub row_by : Option EndPlace → Why → EndPlace
row_by None w = row.Closed w
row_by (Some r) w = r

-- the rows from number b on
abbrev pub rows_from : (ℕ → Option EndPlace) → ℕ → List Why → List EndPlace
rows_from f b [] = []
rows_from f b (w ∷ ws) = row_by (f b) w ∷ rows_from f (suc b) ws

-- the causes of all ends, where those below the base are forgotten
abbrev pub all_causes : ℕ → List Why → List Why
all_causes base causes = replicate base why.Ended ++ causes

-- the end is open
abbrev pub is_slot : EndPlace → Bool
is_slot (row.Slot k) = true
is_slot (row.Closed w) = false

-- an end's own row is kept, once the causes below a number are forgotten
abbrev pub stays_kept : ℕ → ℕ → EndPlace → Bool
stays_kept below i r = nat_le below i || is_slot r

abbrev pub kept_row : ℕ → ℕ → Option EndPlace → Option EndPlace
kept_row below i None = None
kept_row below i (Some r) = if stays_kept below i r then Some r else None

-- the row is that of an open end
abbrev pub IsSlot : Option EndPlace → Type 0
IsSlot None = ⊥
IsSlot (Some (row.Slot k)) = Unit {0}
IsSlot (Some (row.Closed w)) = ⊥

-- no number that was not given out has a row, and each number fits an end's number
pub record AreWithin (base : ℕ) (causes : List Why) (f : ℕ → Option EndPlace) : Type 0 where
  pub beyond : (i : ℕ) → base + length causes ≤ i → f i ≡ None
  pub few : base + length causes ≤ 2 ^ 32

-- the causes, without those below a number
abbrev pub causes_forgotten : ℕ → List Why → List Why
causes_forgotten b [] = []
causes_forgotten zero (w ∷ ws) = w ∷ ws
causes_forgotten (suc b) (w ∷ ws) = why.Ended ∷ causes_forgotten b ws
