use Rattle.dist_messages.proofs.{Words.refl, Words.arith, Words.message_of, Messages.named_has_tag}
use Rattle.dist_messages.proofs.reading.read_message.Goals as goal

pub returns-in_err-to_message-in-Ok-clause-memory : goal.returns-in_err-to_message-in-Ok-clause-memory
returns-in_err-to_message-in-Ok-clause-memory c _ = named_has_tag c.args.side c.args.body.now (message_of c.in-Ok.view) (λ i. omega (arith, c.type_inv.body i)) c.in-Ok.ensures.exact (c.to_message.ensures.memory (rw c.in_err-to_message-in-Ok.was refl))
