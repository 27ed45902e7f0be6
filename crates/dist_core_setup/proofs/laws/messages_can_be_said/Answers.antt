use Rattle.dist_core_setup.proofs.Sayable as sayable
use Rattle.dist_core_setup.proofs.laws.messages_can_be_said.Goals as goal

pub returns-clause-status : goal.returns-clause-status
returns-clause-status c = sayable.status_of

pub returns-clause-new_name : goal.returns-clause-new_name
returns-clause-new_name c = sayable.new_name

pub returns-clause-old_name : goal.returns-clause-old_name
returns-clause-old_name c = sayable.old_name

pub returns-clause-challenge : goal.returns-clause-challenge
returns-clause-challenge c = sayable.new_challenge

pub returns-clause-old_challenge : goal.returns-clause-old_challenge
returns-clause-old_challenge c = sayable.old_challenge

pub returns-clause-complement : goal.returns-clause-complement
returns-clause-complement c = sayable.complement

pub returns-clause-reply : goal.returns-clause-reply
returns-clause-reply c = sayable.reply

pub returns-clause-ack : goal.returns-clause-ack
returns-clause-ack c = sayable.ack
