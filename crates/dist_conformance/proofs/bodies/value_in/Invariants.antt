use Rattle.std.proofs.Common.{◌≡◌, drop}
use Rattle.dist_conformance.specs.Bodies.{values_in, value_in}
use Rattle.dist_conformance.proofs.Values.{chosen}
use Rattle.dist_conformance.proofs.bodies.value_in.Given as goal

-- what came and what is left decide
abbrev pub invariant-loop-form : goal.invariant-loop-form
invariant-loop-form l = record {
  place : l.number ≡ l.form-index;
  so : value_in l.fields l.place l.body ≡ chosen l.place l.form-index l.value (values_in (drop l.form-index l.fields) l.rest);
}
