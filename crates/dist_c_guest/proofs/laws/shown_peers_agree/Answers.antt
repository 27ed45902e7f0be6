use Rattle.dist_c_guest.proofs.ShownPeers.{guards-agree}
use Rattle.dist_c_guest.proofs.laws.shown_peers_agree.Goals as goal

pub returns : goal.returns
returns c = guards-agree c.acts_keep_ends.ensures.legal c.shown_ends_are_up.ensures c.guests_are_nodes.ensures c.nodes_agree.ensures.reached c.ups_are_linked.ensures.counted
