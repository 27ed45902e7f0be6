use Rattle.std.proofs.Common.{◌∙◌, sym, subst}
use Rattle.distping_report.specs.Sinks.{SinkState}
use Rattle.distping_capture.specs.Captures.{EndsAll}
use Rattle.distping_capture.proofs.Taking.{read_ends}
use Rattle.distping_capture.proofs.reading.read_whole.Goals as goal

pub returns-in_ok-status-in-Ok : goal.returns-in_ok-status-in-Ok
returns-in_ok-status-in-Ok g c =
    let all = c.in-Ok.ensures.all in
    let last = c.take_all.new.connections in
    let reading = c.take_all.new.capture in
    let status = c.in_ok-status-in-Ok.status in
    let end = c.in_ok-status-in-Ok.ensures in
    let gone = subst (λ (x : SinkState). EndsAll end.0 status last x) (sym c.into_results.ensures) end.2 in (
      all.0,
      all.1,
      read_ends c.args.terms c.args.mapper_port c.args.lines.quiet c.new-capture.result reading c.new-connections.result last all.0 c.args.out c.into_results.result status end.0 c.new-connections.ensures c.new-capture.ensures all.2
          c.in-Ok.ensures.no_more (end.1.0 ∙ c.counts.ensures) (end.1.1 ∙ c.is_cut_off.ensures) gone,
    )
