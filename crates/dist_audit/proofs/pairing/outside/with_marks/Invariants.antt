use Rattle.dist_audit.proofs.Words.{◌≡◌, ◌++◌, drop, with_marks, marked_lines}
use Rattle.dist_audit.proofs.pairing.outside.with_marks.Given as goal

-- with those that are left it is the whole
abbrev pub invariant-loop-i : goal.invariant-loop-i
invariant-loop-i l = l.all.items ++ marked_lines l.lines (drop l.i l.lines) ≡ with_marks l.lines
