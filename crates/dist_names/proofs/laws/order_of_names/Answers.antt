use Rattle.dist_names.proofs.Orders.{differing_lem, prefix_lem, one_lem, itself_lem}
use Rattle.dist_names.proofs.laws.order_of_names.Goals as goal

pub returns-clause-differing : goal.returns-clause-differing
returns-clause-differing c = differing_lem

pub returns-clause-prefix : goal.returns-clause-prefix
returns-clause-prefix c = prefix_lem

pub returns-clause-one : goal.returns-clause-one
returns-clause-one c = one_lem

pub returns-clause-itself : goal.returns-clause-itself
returns-clause-itself c = itself_lem
