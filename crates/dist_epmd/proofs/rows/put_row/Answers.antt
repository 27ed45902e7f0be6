use Rattle.dist_epmd.proofs.{Words.sym, Words.ap, Words.◌∙◌, Words.subst, Words.values_of, Words.StandAtNames, Named.put_rows}
use Rattle.dist_epmd.proofs.rows.put_row.Goals as goal

pub returns-clause-ok : goal.returns-clause-ok
returns-clause-ok c = ap values_of c.in_ok-insert.ensures.entries ∙ (put_rows c.args.name c.args.row c.requires.own c.args.rows.now.entries c.requires.names c.requires.fresh).0

pub returns-clause-names : goal.returns-clause-names
returns-clause-names c = subst StandAtNames (sym c.in_ok-insert.ensures.entries) (put_rows c.args.name c.args.row c.requires.own c.args.rows.now.entries c.requires.names c.requires.fresh).1
