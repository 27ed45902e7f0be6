use Rattle.std.proofs.{Common.sym, Common.◌∙◌, lemmas.Map.Text.is_eq-slice_cmp}
use Rattle.dist_names.proofs.Orders.{answered_each}
use Rattle.dist_names.proofs.plain.is_same_text.Goals as goal

pub returns-clause-computed : goal.returns-clause-computed
returns-clause-computed c = c.eq.ensures ∙ sym (is_eq-slice_cmp c.args.one.now c.args.other.now)

pub returns-clause-each : goal.returns-clause-each
returns-clause-each c = answered_each c.args.one.now c.args.other.now c.eq.result (returns-clause-computed c)
