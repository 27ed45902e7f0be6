use Rattle.dist_drive.proofs.Words.{◌≡◌, ◌+◌, ◌<◌, Some, vec_len, vec_capacity, ◌∙◌, arith, rules, end_of}
use Rattle.dist_drive.proofs.Losses.{taken_open, loss_room, by_loss}
use Rattle.dist_drive.proofs.memory.MemoryDeskDesk.step.Goals as goal

pub push_reserved-requires : goal.push_reserved-requires
push_reserved-requires c =
    let names : end_of c.args.event ≡ Some c.self.inside.end_ = search rules in
    let opened = taken_open c.self.inside.node.ends c.self.inside.end_ c.in_ok-reply.reply (λ h. c.in_ok-reply.ensures.unknown c.self.inside.end_ names h) (λ w h. c.in_ok-reply.ensures.gone c.self.inside.end_ w names h) in
    let room : vec_len c.self.inside.steps < vec_capacity c.self.inside.steps = c.self.invariant opened.kept opened.there opened.opened in
    omega (arith, room, c.make_room.ensures.kept, c.make_room.ensures.same.1)

pub invariant_of-self-2 : goal.invariant_of-self-2
invariant_of-self-2 c =
    let names : end_of c.args.event ≡ Some c.self.inside.end_ = search rules in
    let opened = taken_open c.self.inside.node.ends c.self.inside.end_ c.in_ok-reply.reply (λ h. c.in_ok-reply.ensures.unknown c.self.inside.end_ names h) (λ w h. c.in_ok-reply.ensures.gone c.self.inside.end_ w names h) in
    by_loss c.args.event
    (λ loss. loss_room c.a_lost_end_is_closed.ensures c.self.inside.node c.step.new.self c.args.event c.self.inside.end_ c.args.fresh _ _ c.in_ok-reply.reply opened.kept loss names opened.there c.in_ok-reply.ensures.step)
    (λ keeps e at opens. let room : vec_len c.make_room.new.steps + 1 < vec_capacity c.make_room.new.steps = c.in-Ok.ensures.room (c.is_lost.ensures ∙ keeps) in omega (arith, room, c.push_reserved.ensures.len, c.push_reserved.ensures.capacity))
