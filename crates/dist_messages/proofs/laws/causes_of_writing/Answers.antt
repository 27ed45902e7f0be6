use Rattle.dist_messages.proofs.{Words.Ok, Words.Err, Writings.answers_law}
use Rattle.dist_messages.proofs.laws.causes_of_writing.Goals as goal
use Rattle.dist_messages.specs.declared.message_error.MessageError.TheVariants as errors

pub returns-clause-written : goal.returns-clause-written
returns-clause-written c = λ side m body. answers_law side m (Ok body)

pub returns-clause-unknown_tag : goal.returns-clause-unknown_tag
returns-clause-unknown_tag c = λ side m. answers_law side m (Err errors.UnknownTag)

pub returns-clause-bad_name : goal.returns-clause-bad_name
returns-clause-bad_name c = λ side m. answers_law side m (Err errors.BadName)

pub returns-clause-unknown_status : goal.returns-clause-unknown_status
returns-clause-unknown_status c = λ side m. answers_law side m (Err errors.UnknownStatus)
