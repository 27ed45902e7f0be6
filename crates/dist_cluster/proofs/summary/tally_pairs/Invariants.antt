-- The words up to here were counted.
use Rattle.std.proofs.Common.{◌≡◌, map, take}
use Rattle.dist_cluster.specs.Summary.{how_many, tallied, shown_counts}
use Rattle.dist_cluster.proofs.summary.tally_pairs.Given as goal

abbrev pub invariant-loop-word : goal.invariant-loop-word
invariant-loop-word l = shown_counts l.tallies.items ≡ tallied (how_many l.halves) (map (λ word. word.now) (take l.word-index l.words))
