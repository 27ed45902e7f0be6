use Rattle.std.proofs.Common.{drop}
use Rattle.dist_names.proofs.Numerals.{SoFar}
use Rattle.dist_names.proofs.numbers.number_in.Given as goal

abbrev pub invariant-loop-byte : goal.invariant-loop-byte
invariant-loop-byte l = SoFar l.radix l.word (drop l.byte-index l.word) l.value
