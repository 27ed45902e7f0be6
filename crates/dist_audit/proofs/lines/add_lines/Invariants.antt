use Rattle.dist_audit.proofs.Words.{◌≡◌, ◌++◌, drop, lines_at}
use Rattle.dist_audit.proofs.lines.add_lines.Given as goal

-- those that were looked at stand behind what there was
abbrev pub invariant-loop-line : goal.invariant-loop-line
invariant-loop-line l = l.lines.items ++ lines_at l.node (drop l.line-index l.history) ≡ l.fn.lines.items ++ lines_at l.node l.history
