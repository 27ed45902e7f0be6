use Rattle.dist_audit.proofs.Words.{List, ap, sym, subst, ◌∙◌, Knows, with_marks, NodeLine}
use Rattle.dist_audit.proofs.Marking.{knows-marked}
use Rattle.dist_audit.proofs.pairing.Lines.mark.Goals as goal

pub invariant_of-self : goal.invariant_of-self
invariant_of-self c =
    let links = c.self.inside.links in
    let before = c.self.inside.noted.items in
    subst (λ (ts : List NodeLine). Knows links.diallers links.acceptors links.doubled ts)
    (sym (c.in_ok-self-inside.ensures ∙ ap with_marks (sym c.self.view_is)))
    (knows-marked before links.diallers links.acceptors links.doubled c.self.invariant)
