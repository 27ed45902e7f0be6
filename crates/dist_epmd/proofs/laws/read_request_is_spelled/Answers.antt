use Rattle.dist_epmd.proofs.{Words.subst, Words.RequestFits, Words.SpellsRequest, Messages.IsReading, Messages.request_again, Messages.request_reading}
use Rattle.dist_epmd.proofs.laws.read_request_is_spelled.Goals as goal

pub returns-clause-read : goal.returns-clause-read
returns-clause-read c = request_again

pub returns-clause-spelled : goal.returns-clause-spelled
returns-clause-spelled c = λ m body bytes e. subst (IsReading SpellsRequest RequestFits body) e (request_reading body bytes)

pub returns-clause-refused : goal.returns-clause-refused
returns-clause-refused c = λ error body bytes e. subst (IsReading SpellsRequest RequestFits body) e (request_reading body bytes)
