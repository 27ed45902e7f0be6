use Rattle.dist_epmd.proofs.{Words.false, Words.sym, Words.ap, Words.◌∙◌, Words.values, Words.option_map_or, Words.is_of, Own.own_is}
use Rattle.dist_epmd.proofs.rows.has_own.Goals as goal

pub returns-in-Some : goal.returns-in-Some
returns-in-Some c = sym (own_is c.args.conn c.args.name.now (values c.args.rows.now) c.requires.ordered ∙ ap (λ o. option_map_or (is_of c.args.conn) o false) (sym c.in-Some.ensures))

pub returns-in-None : goal.returns-in-None
returns-in-None c = sym (own_is c.args.conn c.args.name.now (values c.args.rows.now) c.requires.ordered ∙ ap (λ o. option_map_or (is_of c.args.conn) o false) (sym c.in-None.ensures))
