-- What is written from here on, of the events that are left, is what is written from the start, of all.
use Rattle.std.proofs.Common.{◌≡◌, ℕ, List, Option, drop}
use Rattle.distmapd.specs.Logging.{LogsEvents}
use Rattle.distmapd.proofs.log.Log.write_all.Given as goal

abbrev pub invariant-loop-event : goal.invariant-loop-event
invariant-loop-event g l = record {
  logs : (after : Option (List ℕ)) → LogsEvents l.self.form l.round (drop l.event-index l.events) (g.W.Write.contents l.out) after →
      LogsEvents l.fn.self.form l.round l.events (g.W.Write.contents l.fn.out) after;
  form : l.self.form ≡ l.fn.self.form;
}
