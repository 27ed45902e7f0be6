use Rattle.dist_world_model.proofs.Words.{◌≡◌, ℕ, List, slice_get, Some, sym, ap, ◌∙◌, World, row_of_life, running}
use Rattle.dist_world_lives.specs.{Stepping.wire_of, Wires.front_at}
use Rattle.dist_world.proofs.Marked.{taken_is}
use Rattle.dist_world.proofs.scene.Scene.take.Goals as goal

pub returns-in-Some-2 : goal.returns-in-Some-2
returns-in-Some-2 c =
    let w : World = record { setups = c.self.inside.setups.items; lives = c.self.inside.lives; conns = c.self.inside.conns; clock = c.self.inside.clock; last_closed = c.self.inside.last_closed } in
    let here = sym c.in-Some.ensures in
    let run : running w c.args.node ≡ Some c.in-Some.place = rw (← c.self.view_is) at here in
    let placed : wire_of (row_of_life (slice_get c.self.inside.lives c.in-Some.place) c.args.id.0) ≡ Some (c.in-Some-wire.side, c.in-Some-wire.conn) = sym c.in-Some-wire.ensures in
    let first : front_at (slice_get c.self.inside.conns c.in-Some-wire.conn) c.in-Some-wire.side ≡ Some c.in_ok-body.body = sym c.in-Some-front.ensures ∙ ap (λ (xs : List ℕ). Some xs) (sym c.in_ok-body.ensures) in
    let k = rw c.in-Some-2.is at c.in_ok-notified.ensures.ok in
    rw (← c.self.view_is, c.take.ensures, c.closed_at-self-inside.ensures) (taken_is c.a_reply_is_of_its_end.ensures.step w c.args.node c.in-Some.place c.in-Some-wire.conn c.args.fresh c.args.id c.in-Some-wire.side c.in_ok-body.body c.in-Some-2.who c.in-Some-2.made c.notify-notified.new.self c.notify-notified.new.conns run placed first k)
