use Rattle.std.proofs.Common.{None, sym, subst}
use Rattle.dist_epmd.specs.Registrations.{Registrations}
use Rattle.dist_epmd_clients.specs.Standing.{Stand}
use Rattle.dist_epmd_clients.proofs.Standings.{stand_closed, numbered_with}
use Rattle.dist_epmd_clients.proofs.holding.Clients.remove.Goals as goal

pub invariant_of-self-clause-stand : goal.invariant_of-self-clause-stand
invariant_of-self-clause-stand g c =
    subst (λ (b : Registrations). Stand b c.remove.new.self) (sym c.drop_registration.ensures)
    (stand_closed c.args.self.now.registry c.args.self.now.clients c.remove.new.self c.args.conn c.remove.ensures.updates c.args.self.now.stand)

pub invariant_of-self-clause-numbered : goal.invariant_of-self-clause-numbered
invariant_of-self-clause-numbered g c =
    numbered_with c.args.self.now.next c.args.self.now.clients c.remove.new.self c.args.conn None c.remove.ensures.updates (λ h. cc) c.args.self.now.numbered
