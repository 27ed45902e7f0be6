-- How many ends of a node are open.
use Rattle.std.specs.Prelude.{ℕ, count_by}
use Rattle.dist_core_ends.specs.Ends.{is_open}
use Rattle.dist_core.specs.Node.{NodeState}

abbrev pub open_count : NodeState → ℕ
open_count n = count_by is_open n.ends
