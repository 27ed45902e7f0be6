-- The words up to here were counted.
use Rattle.std.proofs.Common.{◌≡◌, ℕ, List, count_by, map, take}
use Rattle.dist_cluster.specs.Summary.{comes_to, tallied, shown_counts}
use Rattle.dist_cluster.proofs.summary.tally_verdicts.Given as goal

abbrev pub invariant-loop-word : goal.invariant-loop-word
invariant-loop-word l = shown_counts l.tallies.items ≡ tallied (λ (word : List ℕ). count_by (comes_to word) l.halves) (map (λ word. word.now) (take l.word-index l.words))
