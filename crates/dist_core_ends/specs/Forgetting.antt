-- Ends whose causes of closing are forgotten.
use Rattle.std.specs.Prelude.{ℕ, List, ◌++◌, map, take, drop}
use Rattle.dist_core_ends.specs.declared.why.Why.TheVariants as why
use Rattle.dist_core_ends.specs.declared.known.End.{End}
use Rattle.dist_core_ends.specs.declared.known.End.TheVariants as ends

-- an end without its cause of closing: as if the other side had ended the connection
abbrev pub without_cause : End → End
without_cause ends.Unnamed = ends.Unnamed
without_cause (ends.Attempt a) = ends.Attempt a
without_cause (ends.Up r) = ends.Up r
without_cause (ends.Closed w) = ends.Closed why.Ended

-- THE ENDS, WITHOUT THE CAUSES OF CLOSING BELOW A NUMBER: the open ends, and all from that number on, are as they
-- were
abbrev pub without_causes_below : ℕ → List End → List End
without_causes_below below es = map without_cause (take below es) ++ drop below es
