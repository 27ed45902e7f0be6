use Rattle.std.proofs.Common.{◌≡◌, Option, Some, None, IsSome}
use Rattle.dist_peers.proofs.by_name.leave_row.Goals as goal

missing : {X : Type 0} (o : Option X) → IsSome o → o ≡ None → ⊥
missing (Some x) there none = absurd cc
missing None there none = absurd cc

pub returns-in-Err-clause-changed : goal.returns-in-Err-clause-changed
returns-in-Err-clause-changed c = absurd (missing _ c.requires.there c.in-Err.ensures.absent)
