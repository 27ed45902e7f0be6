use Rattle.dist_epmd_clients.specs.Clients.{client_of}
use Rattle.dist_epmd_server.specs.Turns.{Turns}
use Rattle.dist_epmd_server.proofs.Turning.{matched}
use Rattle.dist_epmd_server.proofs.turns.read_once.Goals as goal

pub returns-in-Some-clause-turns : goal.returns-in-Some-clause-turns
returns-in-Some-clause-turns g c =
    let made : Turns {S = g.row.S.Denot} g.S.Stream.meaning c.read.new.room c.args.conn c.args.clients.now c.follow.new.clients c.follow.result = record { heard = c.in-Some.came; mid = c.read.new.self; read = c.in-Some.ensures.some; follows = c.follow.ensures.follows } in
    matched _ (client_of c.args.clients.now c.args.conn) (client_of c.read.new.self c.args.conn) _ _ c.in-Some.ensures.some.there made
