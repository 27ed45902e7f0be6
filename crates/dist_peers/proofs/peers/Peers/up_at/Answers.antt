use Rattle.std.proofs.Common.{ap, ◌∙◌, slice_get}
use Rattle.dist_peers.specs.Table.{up_ids}
use Rattle.dist_peers.proofs.Maps.{rows-of}
use Rattle.dist_peers.proofs.peers.Peers.up_at.Goals as goal

pub returns : goal.returns
returns c = c.up_in.ensures ∙ ap (λ rows. slice_get (up_ids rows) c.args.i) (rows-of c.self.inside.by_name c.args.self.now c.self.invariant c.self.view_is)
