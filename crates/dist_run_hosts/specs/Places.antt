-- How the descriptors of a process are shared out among the parts of a run.
use Rattle.std.specs.Prelude.{ℕ, ◌+◌, ◌-◌, ◌*◌, ◌/◌, min, max}

-- WHAT IS KEPT of the descriptors, so that no stranger takes it: 9 for the program and its port mapper, 3 for each node, and
-- the two ends of each dial
abbrev pub kept_for : ℕ → ℕ → ℕ
kept_for nodes dials = 9 + 3 * nodes + 2 * dials

-- THE CLIENTS OF THE PORT MAPPER: a quarter of the descriptors, but each node of the run and three others at least, and 1,280 at
-- most
abbrev pub clients_for : ℕ → ℕ → ℕ
clients_for most nodes = min (max (most / 4) (nodes + 3)) 1280

-- WHAT ONE NODE MAY HAVE of connections that come unasked: its equal part of what is neither kept nor the port mapper's
abbrev pub node_share : ℕ → ℕ → ℕ → ℕ
node_share most nodes dials = (most - (kept_for nodes dials + clients_for most nodes)) / max nodes 1
