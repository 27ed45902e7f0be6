use Rattle.std.proofs.{Common.◌≡◌, Common.◌↔◌, Common.IsTrue, Common.List, Common.length, Common.nat_eq, Common.subst, Common.arith, lemmas.Grind.common_steps}
use Rattle.dist_locked_book.specs.{Closing.receipts_of, declared.seat.Receipt.Receipt}
use Rattle.dist_locked_book.proofs.Closings.{all_seen}
use Rattle.dist_locked_book.proofs.closing.is_kept.Goals as goal

pub returns : goal.returns
returns c =
    let list = c.receipts-list.result.now in
    let number = c.args.seat.now.number in
    let next = c.loop-place.next in
    let P : List Receipt → Type 0 = λ l. IsTrue (nat_eq next (length list)) ↔ (l ≡ receipts_of number 0 c.args.history.now) in
    subst P c.receipts-list.ensures.list (all_seen list number next c.loop-place.place c.args.history.now c.loop-place.invariant.0 c.loop-place-test.false c.loop-place.invariant.1)

pub loop-place-preserved : goal.loop-place-preserved
loop-place-preserved c = grind (arith, common_steps)
