use Rattle.std.proofs.Common.{List, ap, ◌∙◌}
use Rattle.dist_names.specs.Order.{Name, is_listed}
use Rattle.dist_core_setup.proofs.Lists.{listed-last}
use Rattle.dist_core_setup.proofs.setup.NameList.add.Goals as goal

pub returns-clause-listed : goal.returns-clause-listed
returns-clause-listed c = ap (λ (names : List Name). is_listed names c.args.name) c.in_ok-push.ensures.items ∙ listed-last _ c.args.name
