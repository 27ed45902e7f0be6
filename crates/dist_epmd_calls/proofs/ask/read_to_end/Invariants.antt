-- What was read is appended to what was there.
use Rattle.dist_epmd_calls.proofs.Words.{◌≡◌, ℕ, List, ◌++◌, None, Hears}
use Rattle.dist_epmd_calls.proofs.ask.read_to_end.Given as goal

abbrev pub invariant-loop-count : goal.invariant-loop-count
invariant-loop-count g l =
    (heard : List ℕ)
    × (l.bytes.items ≡ l.initial.bytes.items ++ heard)
    × Hears (g.S.Stream.meaning l.initial.limited.stream.now) (g.S.Stream.meaning l.limited.stream.now) l.initial.limited.left l.limited.left None heard
    × (l.limited.stream.ghost_name ≡ l.initial.limited.stream.ghost_name)

abbrev pub decreases-loop-count : goal.decreases-loop-count
decreases-loop-count g l = l.limited.left
