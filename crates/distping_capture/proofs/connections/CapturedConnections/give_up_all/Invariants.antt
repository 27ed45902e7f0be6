-- All are followed; each turn ends one connection.
use Rattle.std.proofs.Common.{length}
use Rattle.distping_capture.specs.Captures.{GoesOnAll}
use Rattle.distping_capture.proofs.connections.CapturedConnections.give_up_all.Given as goal

abbrev pub invariant-open : goal.invariant-open
invariant-open g l = GoesOnAll l.initial.self l.self

abbrev pub decreases-open : goal.decreases-open
decreases-open g l = length l.self.connections.items
