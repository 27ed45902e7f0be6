use Rattle.dist_audit.proofs.Words.{◌≡◌, ◌&&◌, not, false, IfErr, OnOk, sym, subst, Unpairs, lines_by_node, links_unpaired}
use Rattle.dist_audit.proofs.Pairs.{unpaired-alike}
use Rattle.dist_audit.proofs.pairing.told_lines.Goals as goal

pub returns-clause-paired : goal.returns-clause-paired
returns-clause-paired c =
    subst (λ b. OnOk c.pair.result ((not b && links_unpaired (lines_by_node c.args.closed.now)) ≡ false)) (sym c.if-others.false)
    (subst (λ b. OnOk c.pair.result (b ≡ false)) (sym (unpaired-alike _ _ (let a = c.in_ok-noted.ensures in a.all))) c.pair.ensures.paired)

pub returns-clause-err : goal.returns-clause-err
returns-clause-err c =
    subst (λ b. IfErr c.pair.result (λ e. Unpairs e (not b && links_unpaired (lines_by_node c.args.closed.now)))) (sym c.if-others.false)
    (subst (λ b. IfErr c.pair.result (λ e. Unpairs e b)) (sym (unpaired-alike _ _ (let a = c.in_ok-noted.ensures in a.all))) c.pair.ensures.err)
