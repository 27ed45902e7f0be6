-- The end of a list of receipts.
use Rattle.std.proofs.Common.{◌≡◌, ◌↔◌, ℕ, ◌≤◌, List, [], true, false, IsTrue, nat_eq, drop, length, length-drop, sym, ap, ◌∙◌, arith, eqb-true, eq-eqb}
use Rattle.std.proofs.Common.{drop_of_length-le}
use Rattle.dist_locked_book.specs.{Closing.receipts_of, declared.line.Line.Line, declared.seat.Receipt.Receipt}

pub not_true : false ≡ true → ⊥
not_true e = cc

drop_none : (list : List Receipt) (n : ℕ) → drop n list ≡ [] → length list ≤ n
drop_none list n e = let l : length (drop n list) ≡ 0 = ap length e in omega (arith, l, length-drop n list)

ended : (list : List Receipt) (n : ℕ) → n ≤ length list → IsTrue (nat_eq n (length list)) ↔ (drop n list ≡ [])
ended list n h = (
  λ t. let e : n ≡ length list = eqb-true n (length list) t in drop_of_length-le list (omega arith),
  λ e. eq-eqb n (length list) (let l = drop_none list n e in omega arith),
)

-- where the walk over the lines ends, all receipts were seen
pub all_seen : (list : List Receipt) (number next place : ℕ) (history : List Line) → next ≤ length list → length history ≤ place
    → ((list ≡ receipts_of number 0 history) ↔ (drop next list ≡ receipts_of number place (drop place history)))
    → IsTrue (nat_eq next (length list)) ↔ (list ≡ receipts_of number 0 history)
all_seen list number next place history short done seen =
    let none : receipts_of number place (drop place history) ≡ [] = ap (receipts_of number place) (drop_of_length-le history done) in
    let e = ended list next short in
    (λ t. seen.1 (e.0 t ∙ sym none), λ h. e.1 (seen.0 h ∙ none))
