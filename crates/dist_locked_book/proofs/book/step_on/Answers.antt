use Rattle.std.proofs.Common.{◌≡◌, ◌≤◌, ◌+◌, [], ◌∷◌, ◌++◌, false, Ok, sym, subst, ◌∙◌, arith, rules, vec_len, vec_capacity}
use Rattle.dist_core.specs.{Losses.is_loss, Step.step}
use Rattle.dist_locked_book.specs.{Opens.open_count, declared.line.Line.Line}
use Rattle.dist_locked_book.proofs.Histories.{legal-push, room-step}
use Rattle.dist_locked_book.proofs.book.step_on.Goals as goal

pub returns-clause-answered : goal.returns-clause-answered
returns-clause-answered c =
    let book = c.book.inside in
    let it = c.in_ok-line.ensures in (
      record { node = book.node; seats = book.seats; history = book.history.items },
      c.make_step.new.node,
      c.book.invariant.0,
      search rules,
      subst (λ (l : Line). step book.node l.event l.fresh ≡ Ok (l.reply, c.make_step.new.node)) (sym it.lines.0) it.step,
    )

pub invariant_of-book-2 : goal.invariant_of-book-2
invariant_of-book-2 c =
    let v = c.args.event.now in
    let n = c.book.inside.node in
    let m = c.make_step.new.node in
    let it = c.in_ok-line.ensures in
    let made : step n c.in_ok-line.field-0.line.event c.in_ok-line.field-0.line.fresh ≡ Ok (c.in_ok-line.field-0.line.reply, m) =
    subst (λ (l : Line). step n l.event l.fresh ≡ Ok (l.reply, m)) (sym it.lines.0) it.step in
    let len = vec_len c.make_room-2.new.history in
    let cap = vec_capacity c.make_room-2.new.history in
    let opened = c.open_ends-open_ends.ensures.count in
    let more : is_loss v ≡ false → len + open_count n + 2 ≤ cap = λ h. omega (arith, opened, c.in-Ok-make_room.ensures.room (c.is_lost-lost.ensures ∙ h)) in
    let room = room-step c.open_ends_after_a_step.ensures.most c.open_ends_after_a_step.ensures.loss n v c.args.fresh _ m len cap c.open_ends-open_ends.ensures.legal it.step (omega (arith, opened, c.make_room-2.ensures.kept)) more in
    let items = c.push_reserved.ensures.items ∙ (λ i. c.make_room-2.ensures.same.0 i ++ it.lines.2 i ∷ []) in
    (legal-push c.a_step_keeps.ensures.setup n c.book.inside.history.items _ c.in_ok-line.field-0.line m c.book.invariant.0 made items, omega (arith, room, c.push_reserved.ensures.len, c.push_reserved.ensures.capacity))
