use Rattle.dist_drive.proofs.Words.{ℕ, Bool, true, IfErr, sym, refl, ap, ◌∙◌, subst, rules, Reader, to_come, Carries, IsOnlyGone, LeavesUnread, Start, Goes}
use Rattle.dist_drive.proofs.Words.{Place, Runs, after_step, Ending}
use Rattle.dist_drive.proofs.{Keeping.none_linked, Shown.first_cut, Shown.begins_so, Shown.gone_unread, Shown.not_refused, Shown.at_err}
use Rattle.dist_drive.proofs.driving.run.Goals as goal

pub returns-in-Err-clause-carries : goal.returns-in-Err-clause-carries
returns-in-Err-clause-carries g c =
    let start : Start g.row.D.Denot g.row.W.Denot = record { end_ = c.args.end_; first = c.args.first.now; limit = c.args.limit; stream = g.S.Stream.meaning c.args.stream.now; desk = c.args.desk.now; draws = c.args.draws.now } in
    let P : Ending → Type 0 = λ e. Carries g.D.Desk.facts g.W.Draws.gives start (record { stream = g.S.Stream.meaning c.write_all.new.self.stream.now; desk = c.args.desk.now; draws = c.args.draws.now }) e in
    let cut = subst P (sym c.ending_of_stream.ensures) (first_cut g.D.Desk.facts g.W.Draws.gives start _ c.write_all.new.self.left c.in-Err.error c.in-Err.ensures.says) in
    subst (λ s. Carries g.D.Desk.facts g.W.Draws.gives start (record { stream = g.S.Stream.meaning s; desk = c.args.desk.now; draws = c.args.draws.now }) c.ending_of_stream.result) (search rules) cut

pub loop-frames-init : goal.loop-frames-init
loop-frames-init g c =
    let start : Start g.row.D.Denot g.row.W.Denot = record { end_ = c.args.end_; first = c.args.first.now; limit = c.args.limit; stream = g.S.Stream.meaning c.args.stream.now; desk = c.args.desk.now; draws = c.args.draws.now } in
    let place : Place g.row.D.Denot g.row.W.Denot = record { stream = g.S.Stream.meaning c.write_all.new.self.stream.now; left = c.write_all.new.self.left; desk = c.args.desk.now; draws = c.args.draws.now } in
    record {
      runs = subst (λ (r : Reader). Runs g.D.Desk.facts g.W.Draws.gives start place r) (sym c.new-frames.ensures) (begins_so c.fed_and_moved.ensures.none g.D.Desk.facts g.W.Draws.gives start _ c.write_all.new.self.left c.in_default.ensures.says);
      none = ap to_come c.new-frames.ensures ∙ c.bodies_of_stream.ensures.none;
      base = refl;
      serves = refl;
      gone = λ only. (refl, c.in_default.ensures.says.says.unread, c.in_default.ensures.says.says.spends.ended, c.in_default.ensures.says.says.spends.read_failed);
      loan = refl;
    }

pub returns-in_err-turn-clause-carries : goal.returns-in_err-turn-clause-carries
returns-in_err-turn-clause-carries g c =
    let start : Start g.row.D.Denot g.row.W.Denot = record { end_ = c.args.end_; first = c.args.first.now; limit = c.args.limit; stream = g.S.Stream.meaning c.args.stream.now; desk = c.args.desk.now; draws = c.args.draws.now } in
    let carried = c.in_err-turn.ensures.ends c.loop-frames.invariant.none _ refl c.loop-frames.invariant.runs in
    subst (λ s. IfErr c.from_residual.result (Carries g.D.Desk.facts g.W.Draws.gives start (record { stream = g.S.Stream.meaning s; desk = c.turn.new.desk; draws = c.turn.new.draws }))) (search rules)
    (at_err (Carries g.D.Desk.facts g.W.Draws.gives start (record { stream = g.S.Stream.meaning c.turn.new.limited.stream.now; desk = c.turn.new.desk; draws = c.turn.new.draws })) c.from_residual.result c.in_err-turn.field-0.0 c.from_residual.ensures.1 carried)

pub returns-in_err-turn-clause-gone : goal.returns-in_err-turn-clause-gone
returns-in_err-turn-clause-gone g c = λ only.
    let kept = c.loop-frames.invariant.gone only in
    let noted = c.turn.ensures.gone (subst (λ d. IsOnlyGone g.D.Desk.facts d c.args.end_) (sym kept.0) only) in
    subst (λ s. IfErr c.from_residual.result (LeavesUnread c.args.first.now (g.S.Stream.meaning c.args.stream.now) (g.S.Stream.meaning s))) (search rules)
    (at_err (LeavesUnread c.args.first.now (g.S.Stream.meaning c.args.stream.now) (g.S.Stream.meaning c.turn.new.limited.stream.now)) c.from_residual.result c.in_err-turn.field-0.0 c.from_residual.ensures.1
    (gone_unread c.args.first.now (g.S.Stream.meaning c.args.stream.now) (g.S.Stream.meaning c.loop-frames.limited.stream.now) (g.S.Stream.meaning c.turn.new.limited.stream.now) noted.0.0 c.in_err-turn.field-0.0 (sym c.in_err-turn.was ∙ noted.0.1) noted.1 (kept.1, kept.2, kept.3)))

pub returns-then-until_up-clause-up : goal.returns-then-until_up-clause-up
returns-then-until_up-clause-up g c =
    let start : Start g.row.D.Denot g.row.W.Denot = record { end_ = c.args.end_; first = c.args.first.now; limit = c.args.limit; stream = g.S.Stream.meaning c.args.stream.now; desk = c.args.desk.now; draws = c.args.draws.now } in
    let place : Place g.row.D.Denot g.row.W.Denot = record { stream = g.S.Stream.meaning c.turn.new.limited.stream.now; left = c.turn.new.limited.left; desk = c.turn.new.desk; draws = c.turn.new.draws } in
    let goes = subst (λ (b : Bool). Goes g.D.Desk.facts g.W.Draws.gives start place c.turn.new.frames b) c.if-branch.true (c.in_ok-turn.ensures.runs c.loop-frames.invariant.none _ refl c.loop-frames.invariant.runs) in
    subst (λ s. (left : ℕ) × Goes g.D.Desk.facts g.W.Draws.gives start (record { stream = g.S.Stream.meaning s; left = left; desk = c.turn.new.desk; draws = c.turn.new.draws }) c.turn.new.frames true) (search rules) (c.turn.new.limited.left, goes)

pub returns-then-until_up-clause-not_gone : goal.returns-then-until_up-clause-not_gone
returns-then-until_up-clause-not_gone g c = λ only.
    let kept = c.loop-frames.invariant.gone only in
    let noted = c.turn.ensures.gone (subst (λ d. IsOnlyGone g.D.Desk.facts d c.args.end_) (sym kept.0) only) in
    not_refused c.in_ok-turn.field-0 _ (sym c.in_ok-turn.was ∙ noted.0.1)

pub loop-frames-preserved-then-branch : goal.loop-frames-preserved-then-branch
loop-frames-preserved-then-branch g c =
    let start : Start g.row.D.Denot g.row.W.Denot = record { end_ = c.args.end_; first = c.args.first.now; limit = c.args.limit; stream = g.S.Stream.meaning c.args.stream.now; desk = c.args.desk.now; draws = c.args.draws.now } in
    let place : Place g.row.D.Denot g.row.W.Denot = record { stream = g.S.Stream.meaning c.turn.new.limited.stream.now; left = c.turn.new.limited.left; desk = c.turn.new.desk; draws = c.turn.new.draws } in
    let on = (c.in_ok-turn.ensures.runs c.loop-frames.invariant.none _ refl c.loop-frames.invariant.runs).runs in
    record {
      runs = subst (λ (r : Reader). Runs g.D.Desk.facts g.W.Draws.gives start place r) (ap (λ (b : Bool). after_step b c.turn.new.frames) c.if-branch.true ∙ sym c.to_linked.ensures) on;
      none = ap to_come c.to_linked.ensures ∙ none_linked c.turn.new.frames;
      base = c.turn.ensures.base ∙ c.loop-frames.invariant.base;
      serves = c.turn.ensures.serves ∙ c.loop-frames.invariant.serves;
      gone = λ only.
          let kept = c.loop-frames.invariant.gone only in
          let noted = c.turn.ensures.gone (subst (λ d. IsOnlyGone g.D.Desk.facts d c.args.end_) (sym kept.0) only) in
          absurd (not_refused c.in_ok-turn.field-0 _ (sym c.in_ok-turn.was ∙ noted.0.1));
      loan = c.turn.ensures.loan ∙ c.loop-frames.invariant.loan;
    }

pub loop-frames-preserved : goal.loop-frames-preserved
loop-frames-preserved g c =
    let start : Start g.row.D.Denot g.row.W.Denot = record { end_ = c.args.end_; first = c.args.first.now; limit = c.args.limit; stream = g.S.Stream.meaning c.args.stream.now; desk = c.args.desk.now; draws = c.args.draws.now } in
    let place : Place g.row.D.Denot g.row.W.Denot = record { stream = g.S.Stream.meaning c.turn.new.limited.stream.now; left = c.turn.new.limited.left; desk = c.turn.new.desk; draws = c.turn.new.draws } in
    let on = (c.in_ok-turn.ensures.runs c.loop-frames.invariant.none _ refl c.loop-frames.invariant.runs).runs in
    record {
      runs = subst (λ (r : Reader). Runs g.D.Desk.facts g.W.Draws.gives start place r) (ap (λ (b : Bool). after_step b c.turn.new.frames) c.if-branch.false) on;
      none = sym (ap to_come (ap (λ (b : Bool). after_step b c.turn.new.frames) c.if-branch.false)) ∙ c.in_ok-turn.ensures.all;
      base = c.turn.ensures.base ∙ c.loop-frames.invariant.base;
      serves = c.turn.ensures.serves ∙ c.loop-frames.invariant.serves;
      gone = λ only.
          let kept = c.loop-frames.invariant.gone only in
          let noted = c.turn.ensures.gone (subst (λ d. IsOnlyGone g.D.Desk.facts d c.args.end_) (sym kept.0) only) in
          absurd (not_refused c.in_ok-turn.field-0 _ (sym c.in_ok-turn.was ∙ noted.0.1));
      loan = c.turn.ensures.loan ∙ c.loop-frames.invariant.loan;
    }
