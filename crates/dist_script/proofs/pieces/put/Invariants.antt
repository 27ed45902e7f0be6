use Rattle.std.proofs.Common.{drop}
use Rattle.dist_script.specs.Texts.{texts_of}
use Rattle.dist_script.proofs.Fronts.{PutSoFar}
use Rattle.dist_script.proofs.pieces.put.Given as goal

-- those that were put, and those that are left, are all
abbrev pub invariant-loop-piece : goal.invariant-loop-piece
invariant-loop-piece g l = PutSoFar (texts_of l.pieces) (g.W.Write.contents l.fn.out) (g.W.Write.contents l.out) (texts_of (drop l.piece-index l.pieces))
