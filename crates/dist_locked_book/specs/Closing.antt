-- Whether all seats are there, with all their receipts.
use Rattle.std.specs.Prelude.{◌≡◌, ℕ, ◌+◌, ◌<◌, ◌==◌, List, [], ◌∷◌, if◌then◌else◌, All, count_by}
use Rattle.dist_locked_book.specs.{declared.line.Line.Line, declared.seat.Receipt.Receipt, History.SeatState}

-- the seats have the numbers below n, each once
abbrev pub AreAll : ℕ → List SeatState → Type 0
AreAll n seats = All (λ s. s.number < n) seats × ((k : ℕ) → k < n → count_by (λ s. s.number == k) seats ≡ 1)

-- the receipts of the lines of this seat number, in order, each with the place of its line; the first line has this place
abbrev pub receipts_of : ℕ → ℕ → List Line → List Receipt
receipts_of number place [] = []
receipts_of number place (l ∷ ls) =
    if l.seat == number then (record { at_ = place; line = l } ∷ receipts_of number (place + 1) ls)
    else receipts_of number (place + 1) ls

-- each line is of a seat number below n, and each seat has exactly the receipts of its lines
abbrev pub AreKept : ℕ → List Line → List SeatState → Type 0
AreKept n history seats = All (λ l. l.seat < n) history × All (λ s. s.list ≡ receipts_of s.number 0 history) seats
