use Rattle.dist_messages.specs.Causes.{IsCause}
use Rattle.dist_messages.specs.declared.message_error.MessageError.TheVariants as errors
use Rattle.dist_messages.proofs.Refusals.{causes_law}
use Rattle.dist_messages.proofs.laws.causes_of_refusals.Goals as goal

pub returns-clause-empty : goal.returns-clause-empty
unfolding IsCause
returns-clause-empty c = λ side body fits. causes_law side body errors.Empty fits (λ e. cc)

pub returns-clause-unknown_tag : goal.returns-clause-unknown_tag
unfolding IsCause
returns-clause-unknown_tag c = λ side body fits. causes_law side body errors.UnknownTag fits (λ e. cc)

pub returns-clause-short : goal.returns-clause-short
unfolding IsCause
returns-clause-short c = λ side body fits. causes_law side body errors.Short fits (λ e. cc)

pub returns-clause-long : goal.returns-clause-long
unfolding IsCause
returns-clause-long c = λ side body fits. causes_law side body errors.Long fits (λ e. cc)

pub returns-clause-unknown_status : goal.returns-clause-unknown_status
unfolding IsCause
returns-clause-unknown_status c = λ side body fits. causes_law side body errors.UnknownStatus fits (λ e. cc)
