use Rattle.dist_drive.proofs.Words.{◌≡◌, sym, refl, ap, ◌∙◌, subst, inl, arith, without_next, EndsSo, Place, Runs, after_step}
use Rattle.dist_drive.proofs.{Carrying.finish_at, Carrying.lacks, Carrying.stops, Carrying.moves_on, Carrying.rises_on, Keeping.FrameLaws, Keeping.none_linked}
use Rattle.dist_drive.proofs.Shown.{at_end, at_err}
use Rattle.dist_drive.proofs.driving.hand_on_all.Goals as goal

pub returns-in_err-body-clause-ends : goal.returns-in_err-body-clause-ends
returns-in_err-body-clause-ends g c =
    let laws : FrameLaws = record { fed_on = c.fed_and_moved.ensures.fed; moved_on = c.fed_and_moved.ensures.moved; bodies_are = c.fed_and_moved.ensures.bodies } in
    let begun : Place g.row.D.Denot g.row.W.Denot = record { stream = g.S.Stream.meaning c.args.limited.now.stream.now; left = c.args.limited.now.left; desk = c.args.desk.now; draws = c.args.draws.now } in
    let before : Place g.row.D.Denot g.row.W.Denot = record { stream = g.S.Stream.meaning c.loop-body.limited.stream.now; left = c.loop-body.limited.left; desk = c.loop-body.desk; draws = c.loop-body.draws } in
    let P = EndsSo g.D.Desk.facts g.W.Draws.gives c.args.end_ begun c.args.frames.now (finish_at before) in
    at_err P c.from_residual.result c.in_err-body.field-0.0 c.from_residual.ensures.1
    (subst P (sym c.in_err-body.ensures.err.0) (λ start e runs. lacks laws g.D.Desk.facts g.W.Draws.gives start before c.loop-body.frames before.draws (c.loop-body.invariant.runs start e runs) (inl refl)))

pub returns-in_err-hand_on-clause-ends : goal.returns-in_err-hand_on-clause-ends
returns-in_err-hand_on-clause-ends g c =
    let laws : FrameLaws = record { fed_on = c.fed_and_moved.ensures.fed; moved_on = c.fed_and_moved.ensures.moved; bodies_are = c.fed_and_moved.ensures.bodies } in
    let begun : Place g.row.D.Denot g.row.W.Denot = record { stream = g.S.Stream.meaning c.args.limited.now.stream.now; left = c.args.limited.now.left; desk = c.args.desk.now; draws = c.args.draws.now } in
    let before : Place g.row.D.Denot g.row.W.Denot = record { stream = g.S.Stream.meaning c.loop-body.limited.stream.now; left = c.loop-body.limited.left; desk = c.loop-body.desk; draws = c.loop-body.draws } in
    let after : Place g.row.D.Denot g.row.W.Denot = record { stream = g.S.Stream.meaning c.hand_on.new.limited.stream.now; left = c.hand_on.new.limited.left; desk = c.hand_on.new.desk; draws = c.hand_on.new.draws } in
    let P = EndsSo g.D.Desk.facts g.W.Draws.gives c.args.end_ begun c.args.frames.now (finish_at after) in
    at_err P c.from_residual-in_err-hand_on.result c.in_err-hand_on.field-0.0 c.from_residual-in_err-hand_on.ensures.1
    (λ start is runs. stops laws g.D.Desk.facts g.W.Draws.gives start before after c.loop-body.frames c.in-Some.body c.in_err-hand_on.field-0.0 (c.loop-body.invariant.runs start is runs) (sym c.in_ok-body.ensures.next.0 ∙ c.in-Some.is) (at_end g.D.Desk.facts g.W.Draws.gives c.args.end_ start.end_ c.in-Some.body before after _ is c.in_err-hand_on.ensures.hands))

pub returns-then-branch-clause-runs : goal.returns-then-branch-clause-runs
returns-then-branch-clause-runs g c =
    let laws : FrameLaws = record { fed_on = c.fed_and_moved.ensures.fed; moved_on = c.fed_and_moved.ensures.moved; bodies_are = c.fed_and_moved.ensures.bodies } in
    let before : Place g.row.D.Denot g.row.W.Denot = record { stream = g.S.Stream.meaning c.loop-body.limited.stream.now; left = c.loop-body.limited.left; desk = c.loop-body.desk; draws = c.loop-body.draws } in
    let after : Place g.row.D.Denot g.row.W.Denot = record { stream = g.S.Stream.meaning c.hand_on.new.limited.stream.now; left = c.hand_on.new.limited.left; desk = c.hand_on.new.desk; draws = c.hand_on.new.draws } in
    λ start is runs. rises_on laws g.D.Desk.facts g.W.Draws.gives start before after c.loop-body.frames c.next_frame.new.frames c.in-Some.body c.in_ok-hand_on.field-0 (c.loop-body.invariant.runs start is runs) (sym c.in_ok-body.ensures.next.0 ∙ c.in-Some.is) (at_end g.D.Desk.facts g.W.Draws.gives c.args.end_ start.end_ c.in-Some.body before after _ is c.in_ok-hand_on.ensures.hands) c.if-branch.true c.in_ok-body.ensures.next.1

pub returns-then-branch-clause-all : goal.returns-then-branch-clause-all
returns-then-branch-clause-all g c = none_linked c.next_frame.new.frames

pub loop-body-preserved : goal.loop-body-preserved
loop-body-preserved g c =
    let laws : FrameLaws = record { fed_on = c.fed_and_moved.ensures.fed; moved_on = c.fed_and_moved.ensures.moved; bodies_are = c.fed_and_moved.ensures.bodies } in
    let before : Place g.row.D.Denot g.row.W.Denot = record { stream = g.S.Stream.meaning c.loop-body.limited.stream.now; left = c.loop-body.limited.left; desk = c.loop-body.desk; draws = c.loop-body.draws } in
    let after : Place g.row.D.Denot g.row.W.Denot = record { stream = g.S.Stream.meaning c.hand_on.new.limited.stream.now; left = c.hand_on.new.limited.left; desk = c.hand_on.new.desk; draws = c.hand_on.new.draws } in
    let up = c.in_ok-hand_on.field-0 in
    let held : c.next_frame.new.frames ≡ after_step up (without_next c.loop-body.frames) = c.in_ok-body.ensures.next.1 ∙ ap (λ b. after_step b (without_next c.loop-body.frames)) (sym c.if-branch.false) in
    record {
      runs = λ start is runs. subst (Runs g.D.Desk.facts g.W.Draws.gives start after) (sym held) (moves_on laws g.D.Desk.facts g.W.Draws.gives start before after c.loop-body.frames c.in-Some.body up (c.loop-body.invariant.runs start is runs) (sym c.in_ok-body.ensures.next.0 ∙ c.in-Some.is) (at_end g.D.Desk.facts g.W.Draws.gives c.args.end_ start.end_ c.in-Some.body before after _ is c.in_ok-hand_on.ensures.hands));
      turns = omega (arith, c.in_ok-hand_on.ensures.turns);
      base = c.in_ok-hand_on.ensures.base ∙ c.loop-body.invariant.base;
      serves = c.in_ok-hand_on.ensures.serves ∙ c.loop-body.invariant.serves;
      loan = c.in_ok-hand_on.ensures.loan ∙ c.loop-body.invariant.loan;
    }
