use Rattle.dist_c_guest.proofs.{Common.refl, Pending.room-made}
use Rattle.dist_c_guest.proofs.guest.Guest.evict.Goals as goal

pub returns-clause-room : goal.returns-clause-room
returns-clause-room c =
    room-made c.args.event.now c.in_ok-id.id c.step.result c.args.self.now (record c.args.self.now { node = c.room_for.new.node }) c.step.new.self
    c.in_ok-id.ensures.same refl c.in_ok-id.ensures.room (c.step.ensures.loss refl) c.step.ensures.step
