-- The exit status of a fault.
use Rattle.std.specs.Prelude.{ℕ}
use Rattle.joining.specs.declared.fault.Fault.{Fault}
use Rattle.joining.specs.declared.fault.Fault.TheVariants as fault

-- 2 if the command line is at fault, 3 if the node was not joined, 4 if the link was lost, else 1
abbrev pub fault_status : Fault → ℕ
fault_status (fault.BadWord sentence) = 2
fault_status fault.NamesNoNode = 2
fault_status (fault.NoHost error) = 3
fault_status fault.NoMapper = 3
fault_status (fault.NotFound error) = 3
fault_status fault.NoNode = 3
fault_status (fault.NotUp cause missing) = 3
fault_status (fault.Lost cause) = 4
fault_status fault.LongPacket = 4
fault_status other = 1
