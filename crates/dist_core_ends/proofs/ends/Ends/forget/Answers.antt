use Rattle.dist_core_ends.proofs.Settled.{keeps-forgotten}
use Rattle.dist_core_ends.proofs.ends.Ends.forget.Goals as goal

pub invariant_of-self : goal.invariant_of-self
invariant_of-self c =
    rw c.forget.ensures (keeps-forgotten c.args.below.0 c.self.inside.peers c.self.inside.list.items c.self.inside.passed c.self.inside.named c.self.invariant)
