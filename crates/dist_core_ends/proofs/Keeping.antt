-- Ends in slots, when one of them changes.
use Rattle.dist_core_ends.proofs.Words.{◌≡◌, ℕ, zero, suc, ◌+◌, ◌<◌, true, false, cond, eqb, ltb, ◌≢◌, ◌⊎◌, List, [], ◌∷◌, ◌++◌, length, set, is_some, IsSome}
use Rattle.dist_core_ends.proofs.Words.{slice_get, Some, None, count_by, Option, sym, refl, ap, ◌∙◌, subst, inl, inr, arith, cases_eq, eqb-false, nat_tests}
use Rattle.dist_core_ends.proofs.Words.{slice_get_within, StaysClosed, one_if, put_end, is_open, AreKept, GivesRow, IsFull, Puts, RoomyEnds, Slots, end_of_row}
use Rattle.dist_core_ends.proofs.Words.{ends_of_rows, found_end, in_slot, Attempt, End, EndPlace, Why}
use Rattle.dist_core_ends.proofs.{Changes.get-set, Opens.count-set, Opens.count-push}
use Rattle.slab.specs.Slab.{Slab, ContainsKey}
use Rattle.dist_core_ends.specs.declared.known.End.TheVariants as ends
use Rattle.dist_core_ends.specs.declared.slots.EndPlace.TheVariants as row

-- ---- the ends that rows show

pub row-get : (rows : List EndPlace) (slots : Slots) (i : ℕ) (r : EndPlace) → slice_get rows i ≡ Some r → slice_get (ends_of_rows rows slots) i ≡ Some (end_of_row slots r)
row-get [] slots i r h = absurd cc
row-get (x ∷ rows) slots zero r h = let same : x ≡ r = cc in ap (λ (y : EndPlace). Some (end_of_row slots y)) same
row-get (x ∷ rows) slots (suc i) r h = row-get rows slots i r h

pub shown-length : (rows : List EndPlace) (slots : Slots) → length (ends_of_rows rows slots) ≡ length rows
shown-length [] slots = refl
shown-length (x ∷ rows) slots = ap suc (shown-length rows slots)

pub shown-push : (rows : List EndPlace) (slots : Slots) (r : EndPlace) → ends_of_rows (rows ++ r ∷ []) slots ≡ ends_of_rows rows slots ++ end_of_row slots r ∷ []
shown-push [] slots r = refl
shown-push (x ∷ rows) slots r = ap (λ es. end_of_row slots x ∷ es) (shown-push rows slots r)

-- the slot of this row is another than k
row-other : (old new : Slots) (k : ℕ) (o : Option End) → Puts old new k o → (x : EndPlace) → (x ≡ row.Slot k → ⊥) → end_of_row new x ≡ end_of_row old x
row-other old new k o p (row.Slot m) h = ap found_end (p.others m (λ e. h (ap row.Slot e)))
row-other old new k o p (row.Closed w) h = refl

-- no row has the slot that changes
pub shown-other : (rows : List EndPlace) (old new : Slots) (k : ℕ) (o : Option End) → Puts old new k o → ((i : ℕ) → slice_get rows i ≡ Some (row.Slot k) → ⊥) → ends_of_rows rows new ≡ ends_of_rows rows old
shown-other [] old new k o p h = refl
shown-other (x ∷ rows) old new k o p h =
    let here : end_of_row new x ≡ end_of_row old x = row-other old new k o p x (λ e. h zero (ap Some e)) in
    let rest : ends_of_rows rows new ≡ ends_of_rows rows old = shown-other rows old new k o p (λ i. h (suc i)) in
    λ j. here j ∷ rest j

suc-apart : (i : ℕ) → suc i ≡ zero → ⊥
suc-apart i e = omega (arith, e)

-- one row has the slot that changes
pub shown-set : (rows : List EndPlace) (old new : Slots) (i k : ℕ) (o : Option End) (r : EndPlace) → Puts old new k o → slice_get rows i ≡ Some (row.Slot k) → ((j : ℕ) → slice_get rows j ≡ Some (row.Slot k) → j ≡ i)
    → ends_of_rows (set rows i r) new ≡ set (ends_of_rows rows old) i (end_of_row new r)
shown-set [] old new i k o r p at only = absurd cc
shown-set (x ∷ rows) old new zero k o r p at only =
    ap (λ es. end_of_row new r ∷ es) (shown-other rows old new k o p (λ j e. suc-apart j (only (suc j) e)))
shown-set (x ∷ rows) old new (suc i) k o r p at only =
    let here : end_of_row new x ≡ end_of_row old x = row-other old new k o p x (λ e. suc-apart i (sym (only zero (ap Some e)))) in
    let rest : ends_of_rows (set rows i r) new ≡ set (ends_of_rows rows old) i (end_of_row new r) = shown-set rows old new i k o r p at (λ j e. omega (arith, only (suc j) e)) in
    λ j. here j ∷ rest j

-- ---- rows

-- a row that has a slot, once row i is that of a closed end
pub kept-row : (rows : List EndPlace) (i : ℕ) (w : Why) (j m : ℕ) → i < length rows → slice_get (set rows i (row.Closed w)) j ≡ Some (row.Slot m) → (slice_get rows j ≡ Some (row.Slot m)) × (eqb i j ≡ false)
kept-row rows i w j m within h =
    elim (eqb i j) as (λ b. eqb i j ≡ b → cond b (Some (row.Closed w)) (slice_get rows j) ≡ Some (row.Slot m) → (slice_get rows j ≡ Some (row.Slot m)) × (eqb i j ≡ false)) [
      | true ↦ λ e g. absurd cc
      | false ↦ λ e g. (g, e)
    ] refl (sym (get-set rows i (row.Closed w) j within) ∙ h)

-- a row that has a slot, once one more row is there
pub more-row : (rows : List EndPlace) (r : EndPlace) (j m : ℕ) → slice_get (rows ++ r ∷ []) j ≡ Some (row.Slot m) → ((j ≡ length rows) × (r ≡ row.Slot m)) ⊎ (slice_get rows j ≡ Some (row.Slot m))
more-row [] r zero m h = inl (refl, cc)
more-row [] r (suc j) m h = absurd cc
more-row (x ∷ rows) r zero m h = inr h
more-row (x ∷ rows) r (suc j) m h = elim (more-row rows r j m h) [ inl e ↦ inl (ap suc (e.0), e.1) | inr e ↦ inr e ]

-- ---- what is kept

pub has-slot : (rows : List EndPlace) (s : Slab End) (i k : ℕ) (r : EndPlace) → AreKept rows s.slots → slice_get rows i ≡ Some r → r ≡ row.Slot k → ContainsKey s k
has-slot rows s i k r a at is =
    let f = a.full i k (at ∙ ap Some is) in
    let P : Option End → Type 0 = λ o. IsSome o in
    subst P (sym f.there) refl

pub finds-slot : (rows : List EndPlace) (slots : Slots) (i k : ℕ) (r : EndPlace) (e : End) → AreKept rows slots → slice_get rows i ≡ Some r → r ≡ row.Slot k → in_slot slots k ≡ Some e → (slice_get (ends_of_rows rows slots) i ≡ Some e) × (is_open e ≡ true)
finds-slot rows slots i k r e a at is there =
    let f = a.full i k (at ∙ ap Some is) in
    let both : ◌≡◌ {A = Option End} (Some f.kept) (Some e) = sym f.there ∙ there in
    let same : f.kept ≡ e = (let b = both in cc) in (
      row-get rows slots i r at ∙ ap (λ (x : EndPlace). Some (end_of_row slots x)) is ∙ ap (λ (o : Option End). Some (found_end o)) there,
      ap is_open (sym same) ∙ f.opened,
    )

pub finds-closed : (rows : List EndPlace) (slots : Slots) (i : ℕ) (w : Why) (r : EndPlace) → slice_get rows i ≡ Some r → r ≡ row.Closed w → slice_get (ends_of_rows rows slots) i ≡ Some (ends.Closed w)
finds-closed rows slots i w r at is = row-get rows slots i r at ∙ ap (λ (x : EndPlace). Some (end_of_row slots x)) is

pub same-cause : (es : List End) (i : ℕ) (w : Why) (e : End) → slice_get es i ≡ Some (ends.Closed w) → StaysClosed (slice_get es i) e → e ≡ ends.Closed w
same-cause es i w e at s = let P : Option End → Type 0 = λ o. StaysClosed o e in subst P at s

pub set-same : {A : Type 0} (es : List A) (i : ℕ) (e : A) → slice_get es i ≡ Some e → set es i e ≡ es
set-same [] i e h = refl
set-same (x ∷ es) zero e h = let same : e ≡ x = cc in ap (λ y. y ∷ es) same
set-same (x ∷ es) (suc i) e h = ap (λ xs. x ∷ xs) (set-same es i e h)

pub kept-end : (rows : List EndPlace) (slots : Slots) (i k : ℕ) → slice_get rows i ≡ Some (row.Slot k) → (f : IsFull slots k) → slice_get (ends_of_rows rows slots) i ≡ Some f.kept
kept-end rows slots i k at f = row-get rows slots i (row.Slot k) at ∙ ap (λ (o : Option End). Some (found_end o)) f.there

-- the end in the slot of a row is the end of the row's number
pub slot-shown : (rows : List EndPlace) (slots : Slots) (i k : ℕ) (r : EndPlace) → AreKept rows slots → slice_get rows i ≡ Some r → r ≡ row.Slot k → in_slot slots k ≡ slice_get (ends_of_rows rows slots) i
slot-shown rows slots i k r a at is =
    let there = at ∙ ap Some is in
    let f = a.full i k there in
    f.there ∙ sym (kept-end rows slots i k there f)

-- an end that is closed already stays so
pub closed-stays : (rows : List EndPlace) (slots : Slots) (i : ℕ) (v w : Why) (r : EndPlace) → slice_get rows i ≡ Some r → r ≡ row.Closed v
    → StaysClosed (slice_get (ends_of_rows rows slots) i) (ends.Closed w) → ends_of_rows rows slots ≡ set (ends_of_rows rows slots) i (ends.Closed w)
closed-stays rows slots i v w r at is s =
    let es = ends_of_rows rows slots in
    let there = finds-closed rows slots i v r at is in
    sym (ap (set es i) (same-cause es i v (ends.Closed w) there s) ∙ set-same es i (ends.Closed v) there)

pub not-closed : (rows : List EndPlace) (slots : Slots) (i : ℕ) (b : Attempt) (w : Why) (r : EndPlace) → slice_get (ends_of_rows rows slots) i ≡ Some (ends.Attempt b)
    → slice_get rows i ≡ Some r → r ≡ row.Closed w → ⊥
not-closed rows slots i b w r at there is =
    let bad : ◌≡◌ {A = Option End} (Some (ends.Attempt b)) (Some (ends.Closed w)) = sym at ∙ finds-closed rows slots i w r there is in absurd cc

module _ (rows : List EndPlace) (old new : Slots) (a : AreKept rows old) where
  -- an open end becomes another
  pub refilled-shown : (i k : ℕ) (e : End) → slice_get rows i ≡ Some (row.Slot k) → Puts old new k (Some e) → ends_of_rows rows new ≡ set (ends_of_rows rows old) i e
  refilled-shown i k e at p =
      ap (λ rs. ends_of_rows rs new) (sym (set-same rows i (row.Slot k) at))
      ∙ shown-set rows old new i k (Some e) (row.Slot k) p at (λ j h. a.apart j i k h at)
      ∙ ap (λ (o : Option End). set (ends_of_rows rows old) i (found_end o)) p.here

  pub refilled : (i k : ℕ) (e : End) → slice_get rows i ≡ Some (row.Slot k) → Puts old new k (Some e) → count_by is_some new ≡ count_by is_some old → is_open e ≡ true → AreKept rows new
  refilled i k e at p n opened =
      let g = a.full i k at in
      let was : one_if (is_open g.kept) ≡ 1 = ap one_if g.opened in
      let is : one_if (is_open e) ≡ 1 = ap one_if opened in
      let same : count_by is_open (set (ends_of_rows rows old) i e) ≡ count_by is_open (ends_of_rows rows old) = omega (arith, was, is, count-set (ends_of_rows rows old) i e g.kept (kept-end rows old i k at g)) in
      record {
        full = λ j m h. elim (cases_eq m k) [
          | inl s ↦ record { kept = e; there = ap (in_slot new) s ∙ p.here; opened = opened }
          | inr d ↦ let f = a.full j m h in record { kept = f.kept; there = p.others m d ∙ f.there; opened = f.opened }
        ];
        apart = a.apart;
        counted = n ∙ a.counted ∙ sym same ∙ ap (count_by is_open) (sym (refilled-shown i k e at p));
      }

  -- an open end is closed
  pub emptied-shown : (i k : ℕ) (w : Why) → slice_get rows i ≡ Some (row.Slot k) → Puts old new k None → ends_of_rows (set rows i (row.Closed w)) new ≡ set (ends_of_rows rows old) i (ends.Closed w)
  emptied-shown i k w at p = shown-set rows old new i k None (row.Closed w) p at (λ j h. a.apart j i k h at)

  pub emptied : (i k : ℕ) (w : Why) → slice_get rows i ≡ Some (row.Slot k) → Puts old new k None → count_by is_some new + 1 ≡ count_by is_some old → AreKept (set rows i (row.Closed w)) new
  emptied i k w at p n =
      let within : i < length rows = slice_get_within rows i (row.Slot k) at in
      let g = a.full i k at in
      let was : one_if (is_open g.kept) ≡ 1 = ap one_if g.opened in
      let less : count_by is_open (set (ends_of_rows rows old) i (ends.Closed w)) + 1 ≡ count_by is_open (ends_of_rows rows old) = omega (arith, was, count-set (ends_of_rows rows old) i (ends.Closed w) g.kept (kept-end rows old i k at g)) in
      let same : count_by is_open (ends_of_rows (set rows i (row.Closed w)) new) ≡ count_by is_open (set (ends_of_rows rows old) i (ends.Closed w)) = ap (count_by is_open) (emptied-shown i k w at p) in
      record {
        full = λ j m h.
            let r = kept-row rows i w j m within h in
            let f = a.full j m (r.0) in
            let other : m ≢ k = λ e. eqb-false i j (r.1) (a.apart i j k at (r.0 ∙ ap (λ (x : ℕ). Some (row.Slot x)) e)) in
            record { kept = f.kept; there = p.others m other ∙ f.there; opened = f.opened };
        apart = λ x y m h g. a.apart x y m ((kept-row rows i w x m within h).0) ((kept-row rows i w y m within g).0);
        counted = omega (arith, n, a.counted, less, same);
      }

-- one further end
unused : (rows : List EndPlace) (slots : Slots) (k : ℕ) → AreKept rows slots → in_slot slots k ≡ None → (i : ℕ) → slice_get rows i ≡ Some (row.Slot k) → ⊥
unused rows slots k a free i at = let f = a.full i k at in let bad : ◌≡◌ {A = Option End} None (Some f.kept) = sym free ∙ f.there in absurd cc

pub pushed-shown : (rows : List EndPlace) (old new : Slots) (e : End) (r : EndPlace) → AreKept rows old → GivesRow old new e r → ends_of_rows (rows ++ r ∷ []) new ≡ ends_of_rows rows old ++ e ∷ []
pushed-shown rows old new e (row.Slot k) a g =
    let p = g.1 in
    shown-push rows new (row.Slot k) ∙ (λ j. shown-other rows old new k (Some e) p (unused rows old k a (g.0)) j ++ found_end (p.here j) ∷ [])
pushed-shown rows old new e (row.Closed w) a g = shown-push rows new (row.Closed w) ∙ (λ j. ends_of_rows rows (g.0 j) ++ sym (g.1) j ∷ [])

pub pushed : (rows : List EndPlace) (old new : Slots) (e : End) (r : EndPlace) → AreKept rows old → GivesRow old new e r → AreKept (rows ++ r ∷ []) new
pushed rows old new e (row.Slot k) a g =
    let p = g.1 in
    let is : one_if (is_open e) ≡ 1 = ap one_if (g.3) in
    let more : count_by is_open (ends_of_rows rows old ++ e ∷ []) ≡ count_by is_open (ends_of_rows rows old) + 1 = count-push (ends_of_rows rows old) e ∙ ap (λ (n : ℕ). count_by is_open (ends_of_rows rows old) + n) is in
    let clash : (x m : ℕ) → slice_get rows x ≡ Some (row.Slot m) → row.Slot k ≡ row.Slot m → ⊥ = λ x m h s. (let same : m ≡ k = cc in unused rows old k a (g.0) x (h ∙ ap (λ (y : ℕ). Some (row.Slot y)) same)) in
    record {
      full = λ j m h. elim (more-row rows (row.Slot k) j m h) [
        | inl s ↦ let same : m ≡ k = (let t = s.1 in cc) in record { kept = e; there = ap (in_slot new) same ∙ p.here; opened = g.3 }
        | inr s ↦ let f = a.full j m s in record { kept = f.kept; there = p.others m (λ d. clash j m s (ap row.Slot (sym d))) ∙ f.there; opened = f.opened }
      ];
      apart = λ x y m h d. elim (more-row rows (row.Slot k) x m h) [
        | inl s ↦ elim (more-row rows (row.Slot k) y m d) [ inl t ↦ s.0 ∙ sym (t.0) | inr t ↦ absurd (clash y m t (s.1)) ]
        | inr s ↦ elim (more-row rows (row.Slot k) y m d) [ inl t ↦ absurd (clash x m s (t.1)) | inr t ↦ a.apart x y m s t ]
      ];
      counted = omega (arith, g.2, a.counted, more, ap (count_by is_open) (pushed-shown rows old new e (row.Slot k) a g));
    }
pushed rows old new e (row.Closed w) a g =
    let is : one_if (is_open e) ≡ 0 = ap (λ (y : End). one_if (is_open y)) (g.1) in
    let more : count_by is_open (ends_of_rows rows old ++ e ∷ []) ≡ count_by is_open (ends_of_rows rows old) = omega (arith, is, count-push (ends_of_rows rows old) e) in
    let back : (j m : ℕ) → slice_get (rows ++ row.Closed w ∷ []) j ≡ Some (row.Slot m) → slice_get rows j ≡ Some (row.Slot m) = λ j m h. elim (more-row rows (row.Closed w) j m h) [ inl s ↦ (let t = s.1 in absurd cc) | inr s ↦ s ] in
    record {
      full = λ j m h. let f = a.full j m (back j m h) in record { kept = f.kept; there = ap (λ (s : Slots). in_slot s m) (g.0) ∙ f.there; opened = f.opened };
      apart = λ x y m h d. a.apart x y m (back x m h) (back y m d);
      counted = ap (count_by is_some) (g.0) ∙ a.counted ∙ sym more ∙ ap (count_by is_open) (sym (pushed-shown rows old new e (row.Closed w) a g));
    }

pub none-kept : (rows : List EndPlace) (slots : Slots) → rows ≡ [] → slots ≡ [] → AreKept rows slots
none-kept rows slots e f =
    let none : (i k : ℕ) → slice_get rows i ≡ Some (row.Slot k) → ⊥ = λ i k h. (let bad : ◌≡◌ {A = Option EndPlace} None (Some (row.Slot k)) = ap (λ (xs : List EndPlace). slice_get xs i) (sym e) ∙ h in absurd cc) in
    record {
      full = λ i k h. absurd (none i k h);
      apart = λ i j k h g. absurd (none i k h);
      counted = ap (count_by is_some) f ∙ ap (λ (xs : List EndPlace). count_by is_open (ends_of_rows xs slots)) (sym e);
    }

-- as many rows as ends
pub long : (rows : List EndPlace) (slots : Slots) (room : ℕ) (l : RoomyEnds) → ◌≡◌ {A = RoomyEnds} (record { items = ends_of_rows rows slots; room = room }) l → length l.items ≡ length rows
long rows slots room l is = ap (λ (x : RoomyEnds). length x.items) (sym is) ∙ shown-length rows slots

-- an end is put in a place that is there
pub put-within : (es : List End) (i : ℕ) (e : End) → i < length es → set es i e ≡ put_end es i e
put-within es i e h = elim (ltb i (length es)) as (λ b. ltb i (length es) ≡ b → set es i e ≡ cond b (set es i e) (es ++ e ∷ [])) [ true ↦ λ b. refl | false ↦ λ b. absurd (grind (arith, nat_tests)) ] refl
