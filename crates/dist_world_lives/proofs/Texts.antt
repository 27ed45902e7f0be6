-- A text under delivery: what is undelivered, and the reader that it goes to.
use Rattle.std.proofs.{Common.min, lemmas.List.take_min}
use Rattle.dist_frames.specs.{Reader.Reader, Reader.Short, Reader.Linked, Reader.with_bytes, Reader.next_body, Reader.without_next, Stream.after_first}
use Rattle.dist_world_model.proofs.Words.{take, w16, first_body, ◌≡◌, ℕ, List, ◌++◌, length, drop, refl, ap, ◌∙◌, after_delivery, body_taken, Text}
use Rattle.dist_world_lives.specs.Reading.{come_of, IsShort}

-- ---- the reader

pub short_fed : (r : Reader) (piece : List ℕ) → IsShort r → IsShort (with_bytes r piece)
short_fed (Short pending) piece k = k
short_fed (Linked ended rest) piece k = absurd k

come_fed : (r : Reader) (piece : List ℕ) → IsShort r → come_of (with_bytes r piece) ≡ come_of r ++ piece
come_fed (Short pending) piece k = refl
come_fed (Linked ended rest) piece k = absurd k

pub next_come : (r : Reader) → IsShort r → next_body r ≡ first_body w16 (come_of r)
next_come (Short pending) k = refl
next_come (Linked ended rest) k = absurd k

pub short_taken : (r : Reader) → IsShort r → IsShort (without_next r)
short_taken (Short pending) k = k
short_taken (Linked ended rest) k = absurd k

come_taken : (r : Reader) → IsShort r → come_of (without_next r) ≡ after_first w16 (come_of r)
come_taken (Short pending) k = refl
come_taken (Linked ended rest) k = absurd k

-- ---- the text

pub as_delivered : (said : List ℕ) (r : Reader) (count n : ℕ) → n ≡ min count (length said) → IsShort r → (let t : Text = record { said = drop count said; come = come_of (with_bytes r (take n said)) } in t) ≡ after_delivery count (record { said = said; come = come_of r })
as_delivered said r count n is k =
    let piece : take n said ≡ take count said = ap (λ m. take m said) is ∙ take_min count said in
    let come : come_of (with_bytes r (take n said)) ≡ come_of r ++ take count said = come_fed r (take n said) k ∙ ap (λ xs. come_of r ++ xs) piece in
    λ i. record { said = drop count said; come = come i }

pub as_taken : (said : List ℕ) (r : Reader) → IsShort r → (let t : Text = record { said = said; come = come_of (without_next r) } in t) ≡ body_taken (record { said = said; come = come_of r })
as_taken said r k = λ i. record { said = said; come = come_taken r k i }
