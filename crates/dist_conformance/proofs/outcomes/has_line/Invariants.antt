use Rattle.std.proofs.Common.{◌≡◌}
use Rattle.std.specs.{Prelude.option_copied, List.list_any}
use Rattle.dist_conformance.specs.{Texts.lines_of, Texts.parts_in, Texts.bytes_left, Judging.is_line}
use Rattle.dist_conformance.proofs.outcomes.has_line.Given as goal

-- what is left decides
abbrev pub invariant-loop-rest : goal.invariant-loop-rest
invariant-loop-rest l = list_any (is_line l.is_whole l.wanted) (lines_of l.fn.text) ≡ list_any (is_line l.is_whole l.wanted) (parts_in 10 (option_copied l.rest))

abbrev pub decreases-loop-rest : goal.decreases-loop-rest
decreases-loop-rest l = bytes_left (option_copied l.rest)
