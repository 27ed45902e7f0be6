use Rattle.dist_audit.proofs.Words.{IfErr, subst, rules, RefusesLine, UnlessShort, NodeLine}
use Rattle.dist_audit.proofs.walk.follow.Goals as goal

pub returns-clause-which : goal.returns-clause-which
returns-clause-which c =
    subst (λ (t : NodeLine). IfErr c.follow_line.result (λ e. UnlessShort e (RefusesLine e c.args.lines.now c.args.count c.args.links.now c.args.world.now t)))
    (search rules) c.follow_line.ensures.which
