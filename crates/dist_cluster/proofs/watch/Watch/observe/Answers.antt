use Rattle.dist_cluster.proofs.Watches.{stays-known}
use Rattle.dist_cluster.proofs.watch.Watch.observe.Goals as goal

pub returns-then-is_known-clause-after : goal.returns-then-is_known-clause-after
returns-then-is_known-clause-after c = stays-known c.args.self.now c.args.seen c.is_known.result c.is_known.ensures c.if-is_known.true
