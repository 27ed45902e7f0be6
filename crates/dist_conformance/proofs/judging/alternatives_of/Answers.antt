use Rattle.std.proofs.Common.{ap, drop, arith}
use Rattle.std.proofs.lemmas.List.{drop_all}
use Rattle.dist_conformance.specs.Judging.{observation_of, outcomes_of}
use Rattle.dist_conformance.proofs.Alternatives.{at_end}
use Rattle.dist_conformance.proofs.judging.alternatives_of.Goals as goal

pub returns-clause-failure : goal.returns-clause-failure
returns-clause-failure c =
    let o = observation_of c.args.observed.now in
    let alternatives = c.args.alternatives.now in
    at_end c.loop-patterns.all.failure (outcomes_of o alternatives) (outcomes_of o (drop c.loop-patterns.patterns-index alternatives))
    (ap (outcomes_of o) (drop_all c.loop-patterns.patterns-index alternatives (omega arith))) c.loop-patterns.invariant.failure
