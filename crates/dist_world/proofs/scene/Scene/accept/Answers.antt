use Rattle.dist_world_model.proofs.Words.{◌≡◌, slice_get, Some, sym, World}
use Rattle.dist_world_lives.specs.Wires.{unaccepted_target}
use Rattle.dist_world.proofs.Marked.{accepted_is}
use Rattle.dist_world.proofs.scene.Scene.accept.Goals as goal

pub returns-in-Some-2 : goal.returns-in-Some-2
returns-in-Some-2 c =
    let w : World = record { setups = c.self.inside.setups.items; lives = c.self.inside.lives; conns = c.self.inside.conns; clock = c.self.inside.clock; last_closed = c.self.inside.last_closed } in
    let free : unaccepted_target (slice_get c.self.inside.conns c.args.conn) ≡ Some c.in-Some.target = sym c.in-Some.ensures in
    let k = rw c.in-Some-2.is at c.in_ok-notified.ensures.ok in
    rw (← c.self.view_is, c.accept.ensures, c.closed_at-self-inside.ensures) (accepted_is c.a_reply_is_of_its_end.ensures.step w c.args.conn c.in-Some.target c.in-Some-2.who c.in-Some-2.made c.notify-notified.new.self c.notify-notified.new.conns free k)
