use Rattle.dist_core.specs.declared.event.Event.TheVariants as event
use Rattle.dist_core.proofs.Kept.{reported-so}
use Rattle.dist_core.proofs.node.Node.answer_dial.Goals as goal

pub returns : goal.returns
returns c = reported-so c.args.self.now (event.Dial c.args.peer.now c.args.opening) _ c.in_ok-effect.effect _ c.in_ok-effect.ensures c.into_reply.ensures
