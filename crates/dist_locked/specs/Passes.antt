-- What contracts see of the queue of orders and of its passes.
use Rattle.std.specs.Prelude.{ℕ, Bool, true, false, List, [], if◌then◌else◌}
use Rattle.atomic_table.specs.Seated.{TableId}
use Rattle.dist_locked.specs.{declared.rule.DialOrder.DialOrder, declared.rule.View.View, Orders.Taken, Rule.knows}

-- which queue it is, and how many orders it holds at most
pub record OrdersState : Type 0 where
  pub table : TableId
  pub capacity : ℕ

-- the queue that the pass is for, and what was put
pub record PutState : Type 0 where
  pub table : TableId
  pub put : List DialOrder

-- the queue that the pass is for, whether it is the second worker's, and what that worker took
pub record TakeState : Type 0 where
  pub table : TableId
  pub second : Bool
  pub taken : List Taken

-- what the worker of this pass took
abbrev pub taken_in : View → List Taken
taken_in v = if v.second then v.by_second else v.by_first

-- what the dispatcher's pass knows
abbrev pub putting : List DialOrder → View
putting put = knows true false false put [] []

-- what a worker's pass knows
abbrev pub working : Bool → List Taken → View
working second taken = if second then knows false false true [] [] taken else knows false true false [] taken []
