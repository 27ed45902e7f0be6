use Rattle.dist_epmd_clients.proofs.Standings.{any_stand}
use Rattle.dist_epmd_clients.proofs.holding.Clients.registrations_stand.Goals as goal

pub returns : goal.returns
returns g c = any_stand c.args.self.now.registry c.args.self.now.clients c.args.self.now.stand
