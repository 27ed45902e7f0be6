-- Orders that two workers take, each in its turn.
use Rattle.std.specs.Prelude.{◌≡◌, ℕ, zero, suc, ◌+◌, ◌<◌, ◌≤◌, ◌==◌, if◌then◌else◌, nat_lt}
use Rattle.std.specs.Prelude.{List, [], ◌∷◌, ◌++◌, length, Some, slice_get, All, AllPairs, count_by}
use Rattle.dist_locked.specs.declared.rule.DialOrder.{DialOrder}

-- an order with the place that it had among all that were put
abbrev pub Taken : Type 0
Taken = ℕ × DialOrder

-- how often an order of this place was taken
abbrev pub times : ℕ → List Taken → ℕ
times k taken = count_by (λ (p : Taken). p.0 == k) taken

-- each place is above those before it
abbrev pub Rises : List Taken → Type 0
Rises taken = AllPairs (λ (p : Taken) (q : Taken). p.0 < q.0) taken

-- the order at each place is what was put there
abbrev pub Agrees : List DialOrder → List Taken → Type 0
Agrees put taken = All (λ (p : Taken). slice_get put p.0 ≡ Some p.1) taken

-- the places that the two workers took are those below t, each once; each worker's places rise, and the order at a place is
-- what was put there
pub record AreInTurn (put : List DialOrder) (a b : List Taken) (t : ℕ) : Type 0 where
  pub within : t ≤ length put
  pub once : (k : ℕ) → times k a + times k b ≡ (if nat_lt k t then 1 else 0)
  pub rises : Rises a × Rises b
  pub agrees : Agrees put a × Agrees put b

-- this many orders are left, and the others were taken in turn
abbrev pub AreLeft : List DialOrder → List Taken → List Taken → ℕ → Type 0
AreLeft put a b left = (t : ℕ) × AreInTurn put a b t × (left + t ≡ length put)

-- a worker took this order, at some place, and no other
abbrev pub TakesOne : List Taken → List Taken → DialOrder → Type 0
TakesOne before after order = (place : ℕ) × (after ≡ before ++ (place, order) ∷ [])

-- the orders below a number, in turn
abbrev pub orders_below : ℕ → List DialOrder
orders_below zero = []
orders_below (suc n) = orders_below n ++ record { 0 = n } ∷ []

-- the orders of a run: those below a number, and a last one for each worker
abbrev pub orders_of : ℕ → List DialOrder
orders_of count = (orders_below count ++ record { 0 = 4294967295 } ∷ []) ++ record { 0 = 4294967295 } ∷ []
