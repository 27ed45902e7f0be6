use Rattle.dist_world_lives.proofs.Reset.{reset_keeps}
use Rattle.dist_world_lives.proofs.incarnations.Lives.reset.Goals as goal

pub invariant_of-self : goal.invariant_of-self
invariant_of-self c = reset_keeps c.reset_life.result c.self.inside.lives.items c.reset_life.new.lives.items c.self.inside.index.items c.args.place c.args.wanted c.reset_life.ensures c.self.invariant
