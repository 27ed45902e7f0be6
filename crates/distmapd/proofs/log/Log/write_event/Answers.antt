-- What is written of an event's line is a front of it.
use Rattle.distmapd.specs.Lines.{event_line}
use Rattle.distmapd.proofs.log.Log.write_event.Goals as goal

pub returns-then-admit-clause-logs : goal.returns-then-admit-clause-logs
returns-then-admit-clause-logs g c =
    c.put_for.ensures.puts (event_line c.args.self.now.form c.args.round.now c.args.event.now) c.event_line-line.ensures
