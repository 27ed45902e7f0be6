use Rattle.dist_core.proofs.node.Node.in_attempt.Goals as goal

pub returns-in-Doomed-clause-effect : goal.returns-in-Doomed-clause-effect
returns-in-Doomed-clause-effect c id = rw c.in-Doomed.is (c.in_doomed.ensures.effect c.args.self.now.ends id c.args.attempt.now)

pub returns-in-Doomed-clause-holds : goal.returns-in-Doomed-clause-holds
returns-in-Doomed-clause-holds c = c.in_doomed.ensures.holds c.args.attempt.now

pub returns-in-AwaitChallenge-clause-effect : goal.returns-in-AwaitChallenge-clause-effect
returns-in-AwaitChallenge-clause-effect c id = rw (c.in-AwaitChallenge.is, ← c.setup.ensures) (c.in_await_challenge.ensures.effect c.args.self.now.ends id)

pub returns-in-AwaitAck-clause-effect : goal.returns-in-AwaitAck-clause-effect
returns-in-AwaitAck-clause-effect c id = rw (c.in-AwaitAck.is, ← c.setup-in-AwaitAck.ensures) (c.in_await_ack.ensures.effect c.args.self.now.ends id)

pub returns-in-AwaitReply-clause-effect : goal.returns-in-AwaitReply-clause-effect
returns-in-AwaitReply-clause-effect c id = rw (c.in-AwaitReply.is, ← c.setup-in-AwaitReply.ensures) (c.in_await_reply.ensures.effect c.args.self.now.ends id)
