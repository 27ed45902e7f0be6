use Rattle.std.proofs.Common.{ap}
use Rattle.distping_capture.specs.declared.connections.CapturedConnection.{CapturedConnection}
use Rattle.distping_capture.proofs.{Following.takes_late, Following.takes_next, Keeping.on_ok, Keeping.still_hosts}
use Rattle.distping_capture.proofs.connections.CapturedConnection.take.Goals as goal

pub returns-then-self : goal.returns-then-self
returns-then-self g c =
    on_ok c.take_late.result c.take_late.ensures
    (λ same. takes_late c.args.segment.now c.args.self.now c.take_late.new.self c.args.journal.now c.if-self.true (ap (λ (x : CapturedConnection). x.is_over) same) (ap (λ (x : CapturedConnection). x.judged) same))

pub returns : goal.returns
returns g c =
    on_ok c.end_if_finished.result c.end_if_finished.ensures
    (λ ends. takes_next c.args.segment.now c.args.self.now c.judge_open.new.self c.end_if_finished.new.self c.take.new.self c.args.journal.now c.note_host.new.journal c.judge_open.new.journal c.end_if_finished.new.journal
    c.in_ok-take.ensures (still_hosts c.args.journal.now c.note_host.new.journal c.in_ok-note_host.ensures) (c.in_ok-judge_open.ensures c.if-self.false) ends)
