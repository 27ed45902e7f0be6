use Rattle.dist_world_model.specs.World.{Life}
use Rattle.dist_world_lives.proofs.Links.{link_found}
use Rattle.dist_world_lives.proofs.life.Life.up_with.Goals as goal

pub returns-clause-found : goal.returns-clause-found
returns-clause-found c =
    let l : Life = record { who = c.self.inside.who; begun = c.self.inside.begun; over = c.self.inside.over; node = c.self.inside.node; rows = c.self.inside.rows.items } in
    rw (← c.self.view_is, c.link_of_record.ensures, c.deref.ensures.value) (link_found l c.args.peer.now _ c.up_with.ensures.found)
