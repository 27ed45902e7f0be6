use Rattle.dist_drive.proofs.Words.{◌≡◌, Bool, [], sym, subst, arith, IfErr-weaker, IfOk-weaker, to_come, EndId, Finish, EndsSo, GoesOn, Place, Ending}
use Rattle.dist_drive.proofs.{Carrying.gone, Carrying.piece_ends, Carrying.piece_comes, Keeping.FrameLaws, Shown.ok_so}
use Rattle.dist_drive.proofs.driving.turn.Goals as goal
use Rattle.dist_core_ends.specs.declared.phase.Still.TheVariants as still

pub returns-in-Gone-clause-ends : goal.returns-in-Gone-clause-ends
returns-in-Gone-clause-ends g c =
    let laws : FrameLaws = record { fed_on = c.fed_and_moved.ensures.fed; moved_on = c.fed_and_moved.ensures.moved; bodies_are = c.fed_and_moved.ensures.bodies } in
    λ none start e runs. gone laws g.D.Desk.facts g.W.Draws.gives start _ _ _ runs none
    (subst (λ (x : EndId). g.D.Desk.facts.standing c.args.desk.now x (still.Gone c.in-Gone.why)) (sym e) c.in-Gone.ensures)

pub returns-in-Err-clause-ends : goal.returns-in-Err-clause-ends
returns-in-Err-clause-ends g c =
    let laws : FrameLaws = record { fed_on = c.fed_and_moved.ensures.fed; moved_on = c.fed_and_moved.ensures.moved; bodies_are = c.fed_and_moved.ensures.bodies } in
    λ none start e runs. piece_ends laws g.D.Desk.facts g.W.Draws.gives start _ (g.S.Stream.meaning c.hear.new.limited.stream.now) c.hear.new.limited.left c.args.frames.now c.hear.new.frames _ runs none c.in-Err.ensures.hears

pub returns-in-Ok-clause-runs : goal.returns-in-Ok-clause-runs
returns-in-Ok-clause-runs g c =
    let laws : FrameLaws = record { fed_on = c.fed_and_moved.ensures.fed; moved_on = c.fed_and_moved.ensures.moved; bodies_are = c.fed_and_moved.ensures.bodies } in
    let begun : Place g.row.D.Denot g.row.W.Denot = record { stream = g.S.Stream.meaning c.args.limited.now.stream.now; left = c.args.limited.now.left; desk = c.args.desk.now; draws = c.args.draws.now } in
    let before : Place g.row.D.Denot g.row.W.Denot = record { stream = g.S.Stream.meaning c.hear.new.limited.stream.now; left = c.hear.new.limited.left; desk = c.args.desk.now; draws = c.args.draws.now } in
    let after : Place g.row.D.Denot g.row.W.Denot = record { stream = g.S.Stream.meaning c.hand_on_all.new.limited.stream.now; left = c.hand_on_all.new.limited.left; desk = c.hand_on_all.new.desk; draws = c.hand_on_all.new.draws } in
    let P : Bool → Type 0 = GoesOn g.D.Desk.facts g.W.Draws.gives c.args.end_ before c.hear.new.frames after c.hand_on_all.new.frames in
    let Q : Bool → Type 0 = λ up. to_come c.args.frames.now ≡ [] → GoesOn g.D.Desk.facts g.W.Draws.gives c.args.end_ begun c.args.frames.now after c.hand_on_all.new.frames up in
    IfOk-weaker c.hand_on_all.result P Q
    (λ up later none start e runs. later start e (piece_comes laws g.D.Desk.facts g.W.Draws.gives start begun before.stream before.left c.args.frames.now c.hear.new.frames _ c.in-Ok.ensures.hears runs))
    c.hand_on_all.ensures.runs

pub returns-in-Ok-clause-ends : goal.returns-in-Ok-clause-ends
returns-in-Ok-clause-ends g c =
    let laws : FrameLaws = record { fed_on = c.fed_and_moved.ensures.fed; moved_on = c.fed_and_moved.ensures.moved; bodies_are = c.fed_and_moved.ensures.bodies } in
    let begun : Place g.row.D.Denot g.row.W.Denot = record { stream = g.S.Stream.meaning c.args.limited.now.stream.now; left = c.args.limited.now.left; desk = c.args.desk.now; draws = c.args.draws.now } in
    let before : Place g.row.D.Denot g.row.W.Denot = record { stream = g.S.Stream.meaning c.hear.new.limited.stream.now; left = c.hear.new.limited.left; desk = c.args.desk.now; draws = c.args.draws.now } in
    let finish : Finish g.row.D.Denot g.row.W.Denot = record { stream = g.S.Stream.meaning c.hand_on_all.new.limited.stream.now; desk = c.hand_on_all.new.desk; draws = c.hand_on_all.new.draws } in
    let P : Ending → Type 0 = EndsSo g.D.Desk.facts g.W.Draws.gives c.args.end_ before c.hear.new.frames finish in
    let Q : Ending → Type 0 = λ x. to_come c.args.frames.now ≡ [] → EndsSo g.D.Desk.facts g.W.Draws.gives c.args.end_ begun c.args.frames.now finish x in
    IfErr-weaker c.hand_on_all.result P Q
    (λ x later none start e runs. later start e (piece_comes laws g.D.Desk.facts g.W.Draws.gives start begun before.stream before.left c.args.frames.now c.hear.new.frames _ c.in-Ok.ensures.hears runs))
    c.hand_on_all.ensures.ends

pub returns-in-Ok-clause-fewer : goal.returns-in-Ok-clause-fewer
returns-in-Ok-clause-fewer g c = ok_so c.hand_on_all.result (omega (arith, c.in-Ok.ensures.turn, c.hand_on_all.ensures.turns))
