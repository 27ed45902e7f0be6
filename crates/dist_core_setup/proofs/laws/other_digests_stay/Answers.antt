use Rattle.dist_core_setup.proofs.Keys.{others-stay, same-stays, owners-stay, all-stay}
use Rattle.dist_core_setup.proofs.laws.other_digests_stay.Goals as goal

pub returns-clause-peer : goal.returns-clause-peer
returns-clause-peer c = others-stay

pub returns-clause-same : goal.returns-clause-same
returns-clause-same c = same-stays

pub returns-clause-usual : goal.returns-clause-usual
returns-clause-usual c = owners-stay

pub returns-clause-allowed : goal.returns-clause-allowed
returns-clause-allowed c = all-stay
