use Rattle.std.proofs.Common.{◌≡◌, [], ap, sym, subst, ◌∙◌}
use Rattle.dist_drive.specs.Driven.{Drives}
use Rattle.dist_locked.specs.Desks.{DeskState, desk_of, seat_facts}
use Rattle.dist_locked.proofs.driven.drive_end.Goals as goal

-- the desk as it was made, and as the driver left it
pub returns-clause-drives : goal.returns-clause-drives
returns-clause-drives g c =
    let made = c.in_ok-desk.ensures.desk in
    let left = c.drive-outcome.ensures in
    let before : c.in_ok-desk.desk ≡ desk_of c.args.end_ c.args.seat [] = λ i. record { end_ = made.0 i; number = made.1 i; start = made.2 i; list = made.3 i } in
    let number = ap (λ b. b.0) left.base ∙ made.1 in
    let start = ap (λ b. b.1) left.base ∙ made.2 in
    let end_ = left.serves ∙ made.0 in
    let list = sym c.into_parts-seat.ensures.steps in
    let after : c.drive-outcome.new.desk ≡ desk_of c.args.end_ c.args.seat c.into_parts-seat.result.1.items = λ i. record { end_ = end_ i; number = number i; start = start i; list = list i } in
    subst (λ (x : DeskState × DeskState). Drives seat_facts g.W.Draws.gives
    (record { end_ = c.args.end_; first = c.args.first.now; limit = c.args.limit; stream = g.S.Stream.meaning c.args.stream.now; desk = x.0; draws = c.args.draws.now })
    (record { stream = g.S.Stream.meaning c.drive-outcome.new.stream; desk = x.1; draws = c.drive-outcome.new.draws }) c.drive-outcome.result)
    (λ i. (before i, after i)) left.drives
