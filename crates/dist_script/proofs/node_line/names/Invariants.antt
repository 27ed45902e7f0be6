use Rattle.std.proofs.Common.{◌≡◌, ◌++◌, length, option_map}
use Rattle.dist_script.specs.Nodes.{names_in}
use Rattle.dist_script.proofs.node_line.names.Given as goal

-- the names so far, and then those of the words that are left, are all names
abbrev pub invariant-names : goal.invariant-names
invariant-names l = names_in l.fn.words ≡ option_map (λ rest. l.names.items ++ rest) (names_in l.words)

abbrev pub decreases-names : goal.decreases-names
decreases-names l = length l.words
