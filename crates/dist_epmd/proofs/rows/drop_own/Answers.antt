use Rattle.dist_epmd.proofs.Words.{sym, ap, ◌∙◌, subst, values, values_of, StandAtNames, is_own}
use Rattle.dist_epmd.proofs.Own.{own_dropped, own_left, none_dropped}
use Rattle.dist_epmd.proofs.rows.drop_own.Goals as goal

pub returns-then-has_own-clause-rows : goal.returns-then-has_own-clause-rows
returns-then-has_own-clause-rows c =
    ap values_of c.remove.ensures.entries ∙ own_dropped c.args.conn c.args.name.now c.args.rows.now.entries c.requires.names c.requires.ordered (sym c.has_own.ensures ∙ c.if-has_own.true)

pub returns-then-has_own-clause-names : goal.returns-then-has_own-clause-names
returns-then-has_own-clause-names c = subst StandAtNames (sym c.remove.ensures.entries) (own_left c.args.conn c.args.name.now c.args.rows.now.entries c.requires.names)

pub returns-else-has_own-clause-rows : goal.returns-else-has_own-clause-rows
returns-else-has_own-clause-rows c = sym (none_dropped (is_own c.args.conn c.args.name.now) (values c.args.rows.now) (sym c.has_own.ensures ∙ c.if-has_own.false))
