use Rattle.dist_audit.proofs.Words.{◌≡◌, drop, list_any, is_unknown, NodeLine}
use Rattle.dist_audit.proofs.links.LinkTable.has_unknown.Given as goal

-- what is left decides
abbrev pub invariant-loop-noted : goal.invariant-loop-noted
invariant-loop-noted l = list_any (λ (t : NodeLine). is_unknown (let x = l.self in x.diallers) (let y = t.line in y.event)) (drop l.noted-index l.lines) ≡ list_any (λ (t : NodeLine). is_unknown (let x = l.self in x.diallers) (let y = t.line in y.event)) l.lines
