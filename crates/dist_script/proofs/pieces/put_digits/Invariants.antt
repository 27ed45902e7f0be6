use Rattle.std.proofs.Common.{length}
use Rattle.hex.specs.Hex.{encode_lower}
use Rattle.dist_script.proofs.Fronts.{PutSoFar}
use Rattle.dist_script.proofs.pieces.put_digits.Given as goal

abbrev pub invariant-loop-rest : goal.invariant-loop-rest
invariant-loop-rest g l = PutSoFar (encode_lower l.fn.bytes) (g.W.Write.contents l.fn.out) (g.W.Write.contents l.out) (encode_lower l.rest)

abbrev pub decreases-loop-rest : goal.decreases-loop-rest
decreases-loop-rest g l = length l.rest
