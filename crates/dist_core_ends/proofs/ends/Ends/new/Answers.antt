use Rattle.dist_core_ends.proofs.{Words.arith, Tables.agree-empty}
use Rattle.dist_core_ends.proofs.ends.Ends.new.Goals as goal

pub invariant_of-result : goal.invariant_of-result
invariant_of-result c = record {
  agree = agree-empty c.new.result c.new-2.result.items c.new.ensures c.new-2.ensures;
  pending = record { within = omega arith; settled = λ i h. absurd (omega (arith, h)) };
  nameless = record { within = omega arith; settled = λ i h. absurd (omega (arith, h)) };
}
