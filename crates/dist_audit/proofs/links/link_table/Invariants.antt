use Rattle.dist_audit.proofs.Words.{◌≡◌, drop, links_repeat, Knows}
use Rattle.dist_audit.proofs.links.link_table.Given as goal

-- what those passed say is known
abbrev pub invariant-loop-i : goal.invariant-loop-i
invariant-loop-i l = record {
  known : Knows (let t = l.table in t.diallers) (let t = l.table in t.acceptors) (let t = l.table in t.doubled) (drop l.i l.lines);
  repeats : (let t = l.table in t.repeats) ≡ links_repeat (drop l.i l.lines);
}
