use Rattle.std.proofs.Common.{length, ap, ◌∙◌}
use Rattle.dist_peers.specs.Table.{up_ids}
use Rattle.dist_peers.proofs.Maps.{rows-of}
use Rattle.dist_peers.proofs.peers.Peers.ups.Goals as goal

pub returns : goal.returns
returns c = c.up_count.ensures ∙ ap (λ rows. length (up_ids rows)) (rows-of c.self.inside.by_name c.args.self.now c.self.invariant c.self.view_is)
