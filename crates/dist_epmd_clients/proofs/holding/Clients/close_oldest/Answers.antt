use Rattle.std.proofs.Common.{None, refl, rules}
use Rattle.dist_epmd_clients.proofs.Standings.{stand_without, numbered_with}
use Rattle.dist_epmd_clients.proofs.holding.Clients.close_oldest.Goals as goal

pub invariant_of-self-clause-stand : goal.invariant_of-self-clause-stand
invariant_of-self-clause-stand g c = stand_without c.args.self.now.registry c.args.self.now.clients c.remove.new.self c.in_ok-conn.conn None c.remove.ensures.updates refl (search rules) c.args.self.now.stand

pub invariant_of-self-clause-numbered : goal.invariant_of-self-clause-numbered
invariant_of-self-clause-numbered g c = numbered_with c.args.self.now.next c.args.self.now.clients c.remove.new.self c.in_ok-conn.conn None c.remove.ensures.updates (λ h. cc) c.args.self.now.numbered
