use Rattle.std.proofs.Common.{List, ℕ, subst, arith}
use Rattle.dist_frames.proofs.Owing.{settled, Settled}
use Rattle.dist_frames.proofs.partial.Partial.settle.Goals as goal

pub returns-clause-none : goal.returns-clause-none
returns-clause-none c = (subst (λ (x : List ℕ). Settled x) c.self.view_is (settled c.self.inside.owed c.self.inside.header c.self.inside.len (omega arith) c.self.invariant)).none

pub returns-clause-short : goal.returns-clause-short
returns-clause-short c = (subst (λ (x : List ℕ). Settled x) c.self.view_is (settled c.self.inside.owed c.self.inside.header c.self.inside.len (omega arith) c.self.invariant)).short
