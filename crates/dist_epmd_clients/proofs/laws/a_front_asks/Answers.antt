use Rattle.dist_epmd_clients.proofs.Fronts.{spelled, registration, short, names, others}
use Rattle.dist_epmd_clients.proofs.laws.a_front_asks.Goals as goal

pub returns-clause-spelled : goal.returns-clause-spelled
returns-clause-spelled c = spelled

pub returns-clause-registration : goal.returns-clause-registration
returns-clause-registration c = registration

pub returns-clause-short : goal.returns-clause-short
returns-clause-short c = short

pub returns-clause-names : goal.returns-clause-names
returns-clause-names c = names

pub returns-clause-others : goal.returns-clause-others
returns-clause-others c = others
