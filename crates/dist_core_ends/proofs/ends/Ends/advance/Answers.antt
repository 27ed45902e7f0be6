use Rattle.dist_core_ends.proofs.Words.{[], None, at_stage}
use Rattle.dist_core_ends.proofs.{Progress.put-there, Progress.advance-fits, Progress.advance-table, Settled.keeps-changed}
use Rattle.dist_core_ends.proofs.ends.Ends.advance.Goals as goal
use Rattle.dist_core_ends.specs.declared.known.End.TheVariants as ends

pub advance-requires : goal.advance-requires
advance-requires c = let h = rw (← c.self.view_is) at c.requires in (h.0, h.1)

pub invariant_of-self : goal.invariant_of-self
invariant_of-self c =
    let es = c.self.inside.list.items in
    let t = c.self.inside.peers in
    let h = rw (← c.self.view_is) at c.requires in
    let to = c.args.to in
    rw (put-there es _ c.args.id.0 (ends.Attempt h.0) (ends.Attempt (at_stage h.0 to)) h.1 (c.advance.ensures h.0 h.1), advance-table es t c.self.invariant.agree c.args.id to h.0 h.1 h.2)
    (keeps-changed [] t es c.self.inside.passed c.self.inside.named c.args.id (ends.Attempt (at_stage h.0 to)) None c.self.invariant
    (advance-fits es t c.self.invariant.agree c.args.id to h.0 h.1 h.2))

pub returns : goal.returns
returns c b at =
    let here = rw (← c.self.view_is) at at in
    rw (← c.self.view_is) (put-there c.self.inside.list.items _ c.args.id.0 (ends.Attempt b) (ends.Attempt (at_stage b c.args.to)) here (c.advance.ensures b here))
