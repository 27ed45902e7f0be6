use Rattle.dist_audit.proofs.Words.{◌≡◌, ◌++◌, drop, lines_by_node, lines_from}
use Rattle.dist_audit.proofs.lines.lines_by_node.Given as goal

-- with those that are left it is the whole
abbrev pub invariant-loop-node : goal.invariant-loop-node
invariant-loop-node l = l.lines.items ++ lines_from l.node (drop l.node l.closed) ≡ lines_by_node l.closed
