use Rattle.dist_epmd_clients.proofs.Sweepings.{stand_swept, numbered_swept}
use Rattle.dist_epmd_clients.proofs.holding.Clients.drop_late.Goals as goal

pub invariant_of-self-clause-stand : goal.invariant_of-self-clause-stand
invariant_of-self-clause-stand g c = stand_swept c.args.now c.args.seconds c.args.self.now.registry c.args.self.now.clients c.drop_late_clients.new.clients c.drop_late_clients.ensures.ordered c.drop_late_clients.ensures.kept c.args.self.now.stand

pub invariant_of-self-clause-numbered : goal.invariant_of-self-clause-numbered
invariant_of-self-clause-numbered g c = numbered_swept c.args.now c.args.seconds c.args.self.now.next c.args.self.now.clients c.drop_late_clients.new.clients c.drop_late_clients.ensures.ordered c.drop_late_clients.ensures.kept c.args.self.now.numbered
