use Rattle.std.proofs.Common.{refl}
use Rattle.dist_cluster.proofs.summary.Summary.of_nodes.Goals as goal

pub returns : goal.returns
returns c = record { nodes = refl; verdicts = c.in_ok-verdicts.ensures; pairs = c.pairs_among.ensures; pairings = c.in_ok-pairings.ensures }
