-- Ends and rows whose causes of closing are forgotten.
use Rattle.dist_core_ends.proofs.Words.{◌≡◌, ℕ, zero, suc, ◌+◌, true, List, [], ◌∷◌, length, slice_get, Some, count_by, Option, sym, refl, ap, ◌∙◌, Name, Table}
use Rattle.dist_core_ends.proofs.Words.{one_if, Agree, holds, is_held, is_open, without_cause, without_causes_below, AreKept, Slots, end_of_row, ends_of_rows}
use Rattle.dist_core_ends.proofs.Words.{found_end, rows_forgotten, without_row_cause, End, Kind, EndPlace}
use Rattle.dist_core_ends.proofs.Opens.{count-cons}
use Rattle.std.specs.FinMap as entries
use Rattle.dist_core_ends.specs.declared.known.End.TheVariants as ends
use Rattle.dist_core_ends.specs.declared.slots.EndPlace.TheVariants as row

-- ---- what an end still is once its cause is forgotten

pub same-open : (e : End) → is_open (without_cause e) ≡ is_open e
same-open (ends.Closed w) = refl
same-open e = refl

same-holds : (p : Name) (k : Kind) (e : End) → holds p k (without_cause e) ≡ holds p k e
same-holds p k (ends.Closed w) = refl
same-holds p k e = refl

-- an open end stays as it is
same-end : (e : End) → is_open e ≡ true → without_cause e ≡ e
same-end (ends.Closed w) h = absurd cc
same-end e h = refl

-- ---- the list of ends

pub forgotten-none : (b : ℕ) → without_causes_below b [] ≡ []
forgotten-none zero = refl
forgotten-none (suc b) = refl

pub same-held : (p : Name) (k : Kind) (b : ℕ) (es : List End) (i : ℕ) → is_held p k (slice_get (without_causes_below b es) i) ≡ is_held p k (slice_get es i)
same-held p k zero [] i = refl
same-held p k (suc b) [] i = refl
same-held p k zero (e ∷ es) i = refl
same-held p k (suc b) (e ∷ es) zero = same-holds p k e
same-held p k (suc b) (e ∷ es) (suc i) = same-held p k b es i

pub agree-forgotten : (t : Table) (b : ℕ) (es : List End) → Agree (entries.get t) es → Agree (entries.get t) (without_causes_below b es)
agree-forgotten t b es a p k i = same-held p k b es i ∙ a p k i

pub forgotten-length : (b : ℕ) (es : List End) → length (without_causes_below b es) ≡ length es
forgotten-length zero [] = refl
forgotten-length (suc b) [] = refl
forgotten-length zero (e ∷ es) = refl
forgotten-length (suc b) (e ∷ es) = ap suc (forgotten-length b es)

pub forgotten-count : (b : ℕ) (es : List End) → count_by is_open (without_causes_below b es) ≡ count_by is_open es
forgotten-count zero [] = refl
forgotten-count (suc b) [] = refl
forgotten-count zero (e ∷ es) = refl
forgotten-count (suc b) (e ∷ es) = count-cons (without_cause e) (without_causes_below b es) ∙ (λ j. forgotten-count b es j + one_if (same-open e j)) ∙ sym (count-cons e es)

-- ---- the list of rows

pub rows-slot : (b : ℕ) (rows : List EndPlace) (i k : ℕ) → slice_get (rows_forgotten b rows) i ≡ Some (row.Slot k) → slice_get rows i ≡ Some (row.Slot k)
rows-slot b [] i k h = h
rows-slot zero (r ∷ rows) i k h = h
rows-slot (suc b) (row.Slot m ∷ rows) zero k h = h
rows-slot (suc b) (row.Closed w ∷ rows) zero k h = absurd cc
rows-slot (suc b) (r ∷ rows) (suc i) k h = rows-slot b rows i k h

-- the rows show the ends without their causes
same-row : (slots : Slots) (r : EndPlace) → ((k : ℕ) → r ≡ row.Slot k → is_open (end_of_row slots r) ≡ true) → end_of_row slots (without_row_cause r) ≡ without_cause (end_of_row slots r)
same-row slots (row.Slot k) h = sym (same-end (end_of_row slots (row.Slot k)) (h k refl))
same-row slots (row.Closed w) h = refl

pub shown-forgotten : (b : ℕ) (rows : List EndPlace) (slots : Slots) → ((i k : ℕ) → slice_get rows i ≡ Some (row.Slot k) → is_open (end_of_row slots (row.Slot k)) ≡ true) → ends_of_rows (rows_forgotten b rows) slots ≡ without_causes_below b (ends_of_rows rows slots)
shown-forgotten b [] slots h = sym (forgotten-none b)
shown-forgotten zero (r ∷ rows) slots h = refl
shown-forgotten (suc b) (r ∷ rows) slots h =
    let opened : (k : ℕ) → r ≡ row.Slot k → is_open (end_of_row slots r) ≡ true = λ k e. ap (λ (x : EndPlace). is_open (end_of_row slots x)) e ∙ h zero k (ap Some e) in
    let rest : ends_of_rows (rows_forgotten b rows) slots ≡ without_causes_below b (ends_of_rows rows slots) = shown-forgotten b rows slots (λ i k e. h (suc i) k e) in
    λ j. same-row slots r opened j ∷ rest j

pub kept-shown : (b : ℕ) (rows : List EndPlace) (slots : Slots) → AreKept rows slots → ends_of_rows (rows_forgotten b rows) slots ≡ without_causes_below b (ends_of_rows rows slots)
kept-shown b rows slots a =
    shown-forgotten b rows slots (λ i k h. let f = a.full i k h in ap (λ (o : Option End). is_open (found_end o)) f.there ∙ f.opened)

pub kept-forgotten : (b : ℕ) (rows : List EndPlace) (slots : Slots) → AreKept rows slots → AreKept (rows_forgotten b rows) slots
kept-forgotten b rows slots a = record {
  full = λ i k h. a.full i k (rows-slot b rows i k h);
  apart = λ i j k h g. a.apart i j k (rows-slot b rows i k h) (rows-slot b rows j k g);
  counted = a.counted ∙ sym (ap (count_by is_open) (kept-shown b rows slots a) ∙ forgotten-count b (ends_of_rows rows slots));
}
