-- The rule of the queue of orders, and what each pass knows of the lists that it speaks of.
use Rattle.std.specs.Prelude.{◌≡◌, ℕ, Bool, true, false, ◌||◌, if◌then◌else◌, List, [], ◌∷◌, ◌++◌, drop}
use mathlib.Core.Option.{some}
use lib.ListN.{get_elem?}
use Rattle.dist_locked.specs.{declared.rule.DialOrder.DialOrder, declared.rule.View.View, Orders.Taken, Orders.AreInTurn}

-- a pass that knows the lists it is marked for
abbrev pub knows : Bool → Bool → Bool → List DialOrder → List Taken → List Taken → View
knows puts first second put a b = record { puts = puts; first = first; second = second; put = put; by_first = a; by_second = b }

-- a pass that knows no list
abbrev pub nothing : View
nothing = knows false false false [] [] []

-- a pass from which the first worker's list was cut off, and the one that was cut off
abbrev pub without_first : View → View
without_first v = knows v.puts false v.second v.put [] v.by_second

abbrev pub only_first : View → View
only_first v = knows false true false [] v.by_first []

-- a pass from which the second worker's list was cut off, and the one that was cut off
abbrev pub without_second : View → View
without_second v = knows v.puts v.first false v.put v.by_first []

abbrev pub only_second : View → View
only_second v = knows false false true [] [] v.by_second

-- what two passes know together
abbrev pub together : View → View → View
together v w =
    knows (v.puts || w.puts) (v.first || w.first) (v.second || w.second) (if w.puts then w.put else v.put)
    (if w.first then w.by_first else v.by_first) (if w.second then w.by_second else v.by_second)

-- the dispatcher's pass put an order
abbrev pub with_put : View → DialOrder → View
with_put v x = knows v.puts v.first v.second (v.put ++ x ∷ []) v.by_first v.by_second

-- the pass of the second worker, or else that of the first, took an order at this place
abbrev pub with_taken : View → ℕ → DialOrder → View
with_taken v k x =
    if v.second then knows v.puts v.first v.second v.put v.by_first (v.by_second ++ (k, x) ∷ [])
    else knows v.puts v.first v.second v.put (v.by_first ++ (k, x) ∷ []) v.by_second

-- what was put from t on is left, where the places below t were taken
abbrev pub Left : List DialOrder → List Taken → List Taken → List DialOrder → Type 0
Left put a b items = (t : ℕ) × AreInTurn put a b t × (items ≡ drop t put)

-- one pass at most knows the list, and it knows it as it is
pub record Owned {X : Type 0} (knows_it : View → Bool) (list_of : View → X) (views : List View) (xs : X) : Type 0 where
  -- the place of that pass
  pub owner : ℕ
  pub only : (port : ℕ) (v : View) → get_elem? views port ≡ some v → knows_it v ≡ true → (port ≡ owner) × (list_of v ≡ xs)

-- what was put is what the workers took in turn, and then what the queue holds; each of the three lists is known to one pass
pub record Kept (items : List DialOrder) (views : List View) : Type 0 where
  pub put : List DialOrder
  pub first : List Taken
  pub second : List Taken
  pub left : Left put first second items
  pub knows_put : Owned (λ v. v.puts) (λ v. v.put) views put
  pub knows_first : Owned (λ v. v.first) (λ v. v.by_first) views first
  pub knows_second : Owned (λ v. v.second) (λ v. v.by_second) views second
