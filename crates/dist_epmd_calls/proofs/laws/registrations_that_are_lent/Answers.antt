use Rattle.dist_epmd_calls.proofs.Keeping.{serves_legal, serves_old}
use Rattle.dist_epmd_calls.proofs.laws.registrations_that_are_lent.Goals as goal

pub returns : goal.returns
returns c = record { legal = serves_legal; answered = serves_old }
