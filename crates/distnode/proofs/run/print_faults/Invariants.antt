use Rattle.std.proofs.Common.{take}
use Rattle.std.specs.Io.KnownBytes.{Appends}
use Rattle.distnode.specs.RunPrinted.{orders_text}
use Rattle.distnode.proofs.run.print_faults.Given as goal

-- the lines of those that were looked at stand there
abbrev pub invariant-loop-fault : goal.invariant-loop-fault
invariant-loop-fault g l = Appends (g.W.Write.contents l.fn.out) (g.W.Write.contents l.out) (orders_text (take l.fault-index l.faults))
