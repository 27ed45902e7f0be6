use Rattle.dist_messages.specs.Canonical.{canonical}
use Rattle.dist_core_setup.proofs.Wholes.{whole}
use Rattle.dist_core_setup.proofs.laws.what_is_said_is_read.Goals as goal

pub returns-clause-whole : goal.returns-clause-whole
returns-clause-whole c = whole

pub returns-clause-read : goal.returns-clause-read
returns-clause-read c side m fits said = let law = c.written_is_read.ensures in law.read side m (canonical m) fits said.0
