-- The orders of a run that made no `Dial` step.
use Rattle.std.specs.{Prelude.List, List.Sorted.IsNonDecreasingBy}
use Rattle.dist_run_hosts.specs.declared.order_fault.OrderFault.{OrderFault}

-- IN THE ORDER OF THE FILE: no number is above a later one
abbrev pub AreInOrder : List OrderFault → Type 0
AreInOrder faults = IsNonDecreasingBy (λ (fault : OrderFault). fault.number) faults
