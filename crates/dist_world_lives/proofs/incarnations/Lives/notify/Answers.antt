use Rattle.dist_world_lives.proofs.Indexes.{notify_keeps}
use Rattle.dist_world_lives.proofs.incarnations.Lives.notify.Goals as goal

pub invariant_of-self : goal.invariant_of-self
invariant_of-self c = notify_keeps c.notify.result c.self.inside.lives.items c.notify.new.lives.items c.self.inside.index.items c.args.conns.now c.notify.new.conns c.args.place c.args.occasion.now.clock c.args.occasion.now.fresh c.args.occasion.now.event.now c.notify.ensures.ok c.notify.ensures.err c.self.invariant
