use Rattle.dist_c_guest.proofs.Held.{not_taken, taken}
use Rattle.dist_c_guest.proofs.guard.take_guarded.Goals as goal

pub returns-in_err-take : goal.returns-in_err-take
returns-in_err-take c =
    not_taken c.args.id c.args.body.now c.args.fresh c.args.guest.now c.foresee.new.self c.take.new.self
    c.from_residual-in_err-take.result _ c.from_residual-in_err-take.ensures.1 c.in_ok-reply.ensures.same c.in_err-take.ensures

pub returns : goal.returns
returns c =
    taken c.args.id c.args.body.now c.args.fresh c.args.guest.now c.foresee.new.self c.take.new.self c.in_ok-reply.reply c.closes_up_end.result
    c.in_ok-reply.ensures.same c.in_ok-reply.ensures.reply c.closes_up_end.ensures c.if-closes_up_end.false c.in_ok-take.ensures
