use Rattle.std.proofs.Common.{◌≡◌, ◌≤◌, drop, length}
use Rattle.dist_conformance.specs.Judging.{observation_of, no_passage, sequence_of}
use Rattle.dist_conformance.proofs.judging.sequence_outcome.Given as goal

-- what matched, and the patterns that are left, are all patterns; no more bytes matched than came
abbrev pub invariant-loop-pattern : goal.invariant-loop-pattern
invariant-loop-pattern l = record {
  so : sequence_of (observation_of l.observed) no_passage l.patterns ≡ sequence_of (observation_of l.observed) l.passage (drop l.pattern-index l.patterns);
  within : l.passage.count ≤ length l.observed.came.now;
}
