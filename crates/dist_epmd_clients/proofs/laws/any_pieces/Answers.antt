use Rattle.dist_epmd_clients.proofs.Pieces.{pieces_ask}
use Rattle.dist_epmd_clients.proofs.laws.any_pieces.Goals as goal

pub returns : goal.returns
returns g c = pieces_ask {S = g.row.S.Denot}
