use Rattle.std.proofs.{Common.sym, Common.◌∙◌, lemmas.Bool.not-true}
use Rattle.dist_world.proofs.Naming.{distinct}
use Rattle.dist_world.proofs.setups.are_good.Goals as goal

pub returns-clause-good : goal.returns-clause-good
returns-clause-good c = λ yes. record { each = c.all_known.ensures; distinct = distinct c.order_of_names.ensures.itself c.args.setups.now (sym c.names_repeat.ensures ∙ not-true c.names_repeat.result yes) }
