use Rattle.dist_core_ends.proofs.Words.{[], length, None, refl, ap, ◌∙◌, arith}
use Rattle.dist_core_ends.proofs.{Fitting.fit-closes, Keeping.put-within, Progress.held-entry, Settled.keeps-changed}
use Rattle.dist_core_ends.proofs.ends.Ends.close.Goals as goal
use Rattle.dist_core_ends.specs.declared.known.End.TheVariants as ends

pub leave-requires : goal.leave-requires
leave-requires c = rw c.close-closed.ensures.was (held-entry c.self.inside.list.items c.self.inside.peers c.self.invariant.agree c.args.id)

pub invariant_of-self : goal.invariant_of-self
invariant_of-self c =
    let es = c.self.inside.list.items in
    let t = c.self.inside.peers in
    let stays = rw (← c.self.view_is) at c.requires.stays in
    let f = fit-closes [] es t c.self.invariant.agree c.args.id c.args.why _ stays refl (omega (arith, ap length c.self.view_is, c.requires.there)) in
    rw (c.leave.ensures, c.close-closed.ensures.was, c.close-closed.ensures.ends, put-within es c.args.id.0 (ends.Closed c.args.why) (omega (arith, ap length c.self.view_is, c.requires.there)))
    (keeps-changed [] t es c.self.inside.passed c.self.inside.named c.args.id (ends.Closed c.args.why) None c.self.invariant f)

pub returns : goal.returns
returns c =
    rw (← c.self.view_is) (c.close-closed.ensures.ends ∙ put-within c.self.inside.list.items c.args.id.0 (ends.Closed c.args.why) (omega (arith, ap length c.self.view_is, c.requires.there)))
