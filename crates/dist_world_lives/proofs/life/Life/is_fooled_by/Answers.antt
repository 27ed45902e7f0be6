use Rattle.dist_world_model.specs.World.{Life}
use Rattle.dist_world_lives.proofs.Links.{fooled_by}
use Rattle.dist_world_lives.proofs.life.Life.is_fooled_by.Goals as goal

pub returns : goal.returns
returns c =
    let l : Life = record { who = c.self.inside.who; begun = c.self.inside.begun; over = c.self.inside.over; node = c.self.inside.node; rows = c.self.inside.rows.items } in
    rw (← c.self.view_is, c.is_unlinked.ensures, c.deref.ensures.value) (fooled_by l c.args.peer.now _ c.up_with.ensures.found c.up_with.ensures.only)
