use Rattle.std.proofs.Common.{take}
use Rattle.std.specs.Io.KnownBytes.{Appends}
use Rattle.distnode.specs.RunPrinted.{closed_text}
use Rattle.distnode.proofs.run.print_closed.Given as goal

-- the lines of those that were looked at stand there
abbrev pub invariant-loop-closed : goal.invariant-loop-closed
invariant-loop-closed g l = Appends (g.W.Write.contents l.fn.out) (g.W.Write.contents l.out) (closed_text (take l.closed-index l.all))
