use Rattle.dist_messages.proofs.Words.{arith}
use Rattle.dist_messages.proofs.{Messages.found_from, Messages.only_from, Refusals.refused_from}
use Rattle.dist_messages.proofs.reading.decode.Goals as goal

pub returns-clause-found : goal.returns-clause-found
returns-clause-found c = found_from c.args.side c.args.body.now c.read_message.result (λ i. omega (arith, c.type_inv.body i)) c.read_message.ensures.exact

pub returns-clause-only : goal.returns-clause-only
returns-clause-only c = λ m fits spelled. only_from c.args.side c.args.body.now c.read_message.result m c.read_message.ensures.exact fits spelled

pub returns-clause-cause : goal.returns-clause-cause
returns-clause-cause c = refused_from c.args.side c.args.body.now c.read_message.result (λ i. omega (arith, c.type_inv.body i)) c.read_message.ensures.exact
