use Rattle.dist_script.proofs.Fronts.{PutSoFar}
use Rattle.dist_script.proofs.pieces.put_bytes.Given as goal

-- what was written and what is left are the bytes
abbrev pub invariant-writes : goal.invariant-writes
invariant-writes g l = PutSoFar l.fn.bytes (g.W.Write.contents l.fn.out) (g.W.Write.contents l.out) l.rest
