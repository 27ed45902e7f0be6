-- Of the bytes that were read the segments were taken.
use Rattle.std.proofs.Common.{ℕ, List}
use Rattle.std.specs.Io.KnownBytes.{Consumes}
use Rattle.distping_capture.specs.Captures.{ReadsIn}
use Rattle.distping_capture.proofs.reading.take_all.Given as goal

abbrev pub invariant-pieces : goal.invariant-pieces
invariant-pieces g l =
    (bytes : List ℕ) × Consumes (g.F.Read.remaining l.fn.file) (g.F.Read.remaining l.file) bytes × ReadsIn bytes l.initial.capture l.initial.connections l.capture l.connections
