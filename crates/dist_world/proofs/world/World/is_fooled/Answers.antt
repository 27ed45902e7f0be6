use Rattle.dist_world.proofs.world.World.is_fooled.Goals as goal

pub returns : goal.returns
returns c = rw (← c.self.view_is) c.is_fooled.ensures
