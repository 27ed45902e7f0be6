use Rattle.distping_capture.proofs.Following.{renews_new}
use Rattle.distping_capture.proofs.connections.CapturedConnection.renew.Goals as goal

pub returns : goal.returns
returns g c = renews_new c.args.segment.now c.args.mapper_port c.args.self.now c.end.new.self c.new.result c.args.journal.now c.end.new.journal c.in_ok-end.ensures c.new.ensures.seen c.new.ensures.open_.0
