use Rattle.dist_script.proofs.{Fronts.on_err, Printing.put_part}
use Rattle.dist_script.proofs.pieces.put.Goals as goal

pub returns-in_err-put_piece-clause-cut : goal.returns-in_err-put_piece-clause-cut
returns-in_err-put_piece-clause-cut g c =
    on_err c.from_residual.result (put_part _ _ _ _ c.args.pieces.now c.loop-piece.piece-index c.loop-piece.invariant _ c.loop-piece-test.true c.in_err-put_piece.ensures.cut)
