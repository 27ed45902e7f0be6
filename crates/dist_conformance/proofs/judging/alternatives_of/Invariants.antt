use Rattle.std.proofs.Common.{◌≡◌, drop}
use Rattle.std.specs.{Prelude.◌||◌, List.list_any}
use Rattle.dist_conformance.specs.Judging.{observation_of, outcomes_of, first_passage, is_open}
use Rattle.dist_conformance.specs.Alternatives.{or_next}
use Rattle.dist_conformance.proofs.Alternatives.{first_why}
use Rattle.dist_conformance.proofs.judging.alternatives_of.Given as goal

-- what came and what is left decide
abbrev pub invariant-loop-patterns : goal.invariant-loop-patterns
invariant-loop-patterns l = record {
  passage : first_passage (outcomes_of (observation_of l.observed) l.alternatives) ≡ or_next l.all.passage (first_passage (outcomes_of (observation_of l.observed) (drop l.patterns-index l.alternatives)));
  undecided : list_any is_open (outcomes_of (observation_of l.observed) l.alternatives) ≡ l.all.is_undecided || list_any is_open (outcomes_of (observation_of l.observed) (drop l.patterns-index l.alternatives));
  failure : first_why (outcomes_of (observation_of l.observed) l.alternatives) ≡ or_next l.all.failure (first_why (outcomes_of (observation_of l.observed) (drop l.patterns-index l.alternatives)));
}
