use Rattle.std.proofs.Common.{[], arith}
use Rattle.distping_report.specs.Texts.{piece_text}
use Rattle.distping_report.proofs.Behind.{texts_more}
use Rattle.distping_report.proofs.piece.line_of.Goals as goal

pub loop-piece-preserved : goal.loop-piece-preserved
loop-piece-preserved c =
    texts_more piece_text [] _ _ c.args.pieces.now c.loop-piece.piece-index _ (omega arith) c.loop-piece.invariant c.in_ok-push_piece.ensures
