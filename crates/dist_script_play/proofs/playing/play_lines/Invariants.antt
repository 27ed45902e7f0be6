use Rattle.dist_script_play.proofs.Lines.{PlayedSoFar}
use Rattle.dist_script_play.proofs.playing.play_lines.Given as goal

-- what the lines so far print was put on the page
abbrev pub invariant-loop-line : goal.invariant-loop-line
invariant-loop-line g l = PlayedSoFar l.fn.scene l.lines (g.W.Write.contents l.fn.out) (g.W.Write.contents l.out) l.fn.page.text.items l.page.text.items l.scene l.line-index
