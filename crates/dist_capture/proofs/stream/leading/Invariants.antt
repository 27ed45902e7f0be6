use Rattle.std.proofs.Common.{◌≡◌, ◌++◌, drop}
use Rattle.dist_capture.specs.Streams.{leading, laid}
use Rattle.dist_capture.proofs.stream.leading.Given as goal

abbrev pub invariant-loop-i : goal.invariant-loop-i
invariant-loop-i l = l.front.items ++ leading (drop l.i (laid 0 l.bytes l.known)) ≡ leading (laid 0 l.bytes l.known)
