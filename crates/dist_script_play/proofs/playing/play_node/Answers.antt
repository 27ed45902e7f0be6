use Rattle.dist_script_play.proofs.Words.{BreaksOff, at_first, lines_text}
use Rattle.dist_script_play.proofs.{Lines.node_breaks, Pages.at_err}
use Rattle.dist_script_play.proofs.playing.play_node.Goals as goal

pub returns-in_err-finish-clause-cut : goal.returns-in_err-finish-clause-cut
returns-in_err-finish-clause-cut g c =
    at_err (BreaksOff (lines_text (at_first c.args.node) c.args.lines.now) (g.W.Write.contents c.args.out.now) (g.W.Write.contents c.finish.new.out)) c.from_residual.result c.in_err-finish.field-0.0 c.from_residual.ensures.1
    (node_breaks c.play_lines-played.result c.args.node c.args.lines.now _ _ _ _ _ _ _ c.new.ensures c.new-page.ensures c.play_lines-played.ensures.text c.play_lines-played.ensures.cut c.in_err-finish.ensures.front c.in_err-finish.ensures.fault)
