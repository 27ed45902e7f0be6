use Rattle.dist_script_play.proofs.Words.{arith, PutsPart, lines_text}
use Rattle.dist_script_play.proofs.{Lines.cut_item, Lines.all_played, Lines.cut_table, Pages.at_err}
use Rattle.dist_script_play.proofs.playing.play_lines.Goals as goal

pub returns-in_err-play_line-clause-cut : goal.returns-in_err-play_line-clause-cut
returns-in_err-play_line-clause-cut g c =
    at_err (λ f. PutsPart (lines_text c.args.scene.now c.args.lines.now) (g.W.Write.contents c.args.out.now) (g.W.Write.contents c.play_line.new.out) c.args.page.now.text.items c.play_line.new.page.text.items f) c.from_residual.result c.in_err-play_line.field-0.0 c.from_residual.ensures.1
    (cut_item _ _ _ _ _ _ _ _ _ _ c.line-item.result _ c.loop-line.invariant c.loop-line-test.true c.line-item.is c.in_err-play_line.ensures.cut)

pub returns-in_err-print_table-clause-cut : goal.returns-in_err-print_table-clause-cut
returns-in_err-print_table-clause-cut g c =
    at_err (λ f. PutsPart (lines_text c.args.scene.now c.args.lines.now) (g.W.Write.contents c.args.out.now) (g.W.Write.contents c.print_table.new.out) c.args.page.now.text.items c.print_table.new.page.text.items f) c.from_residual-in_err-print_table.result c.in_err-print_table.field-0.0 c.from_residual-in_err-print_table.ensures.1
    (cut_table _ _ _ _ _ _ _ _ _ _ _ c.loop-line.invariant (omega (arith, c.loop-line-test.false)) c.in_err-print_table.ensures.cut)

pub returns-clause-text : goal.returns-clause-text
returns-clause-text g c =
    all_played _ _ _ _ _ _ _ _ _ _ c.loop-line.invariant (omega (arith, c.loop-line-test.false)) c.in_ok-print_table.ensures.text
