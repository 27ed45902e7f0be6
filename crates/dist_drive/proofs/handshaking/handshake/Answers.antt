use Rattle.dist_drive.proofs.Words.{refl, inl, Start, Place}
use Rattle.dist_drive.proofs.{Carrying.lacks, Handshakes.comes_up, Keeping.FrameLaws}
use Rattle.dist_drive.proofs.handshaking.handshake.Goals as goal
use Rattle.dist_core_ends.specs.declared.why.Why.TheVariants as why
use Rattle.dist_drive.specs.declared.outcome.Ending.TheVariants as ending

pub newest_record-requires : goal.newest_record-requires
newest_record-requires g c = c.in-Ok.ensures.up.1.newest refl

pub returns-in-Ok-newest_record-clause-shakes : goal.returns-in-Ok-newest_record-clause-shakes
returns-in-Ok-newest_record-clause-shakes g c =
    let laws : FrameLaws = record { fed_on = c.fed_and_moved.ensures.fed; moved_on = c.fed_and_moved.ensures.moved; bodies_are = c.fed_and_moved.ensures.bodies } in
    let start : Start g.row.D.Denot g.row.W.Denot = record { end_ = c.args.end_; first = c.args.first.now; limit = c.args.limit; stream = g.S.Stream.meaning c.args.stream.now; desk = c.args.desk.now; draws = c.args.draws.now } in
    let place : Place g.row.D.Denot g.row.W.Denot = record { stream = g.S.Stream.meaning c.run.new.stream; left = c.in-Ok.ensures.up.0; desk = c.run.new.desk; draws = c.run.new.draws } in
    comes_up laws g.D.Desk.facts g.W.Draws.gives start place c.in-Ok.frames c.in-Ok-newest_record.record c.into_rest.result.items c.in-Ok.ensures.up.1 c.in-Ok-newest_record.ensures c.into_rest.ensures c.in-Ok.ensures.not_gone

pub returns-in-Err-newest_record-clause-shakes : goal.returns-in-Err-newest_record-clause-shakes
returns-in-Err-newest_record-clause-shakes g c =
    let laws : FrameLaws = record { fed_on = c.fed_and_moved.ensures.fed; moved_on = c.fed_and_moved.ensures.moved; bodies_are = c.fed_and_moved.ensures.bodies } in
    let start : Start g.row.D.Denot g.row.W.Denot = record { end_ = c.args.end_; first = c.args.first.now; limit = c.args.limit; stream = g.S.Stream.meaning c.args.stream.now; desk = c.args.desk.now; draws = c.args.draws.now } in
    let place : Place g.row.D.Denot g.row.W.Denot = record { stream = g.S.Stream.meaning c.run.new.stream; left = c.in-Ok.ensures.up.0; desk = c.run.new.desk; draws = c.run.new.draws } in
    record {
      ending = ending.Fault why.NoMemory;
      desk = c.run.new.desk;
      carries = lacks laws g.D.Desk.facts g.W.Draws.gives start place _ place.draws c.in-Ok.ensures.up.1.runs (inl refl);
      losses = c.report_ending.ensures.noted.0;
      losses_are = c.report_ending.ensures.noted.2;
      list_is = c.report_ending.ensures.noted.1;
      outcome_is = c.report_ending.ensures.outcome;
      gone = λ only. absurd (c.in-Ok.ensures.not_gone only);
    }
