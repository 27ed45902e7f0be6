-- Rows as one byte for each number, and the rows of open ends beside them.
use Rattle.dist_core_ends.proofs.Words.{◌≡◌, ℕ, zero, suc, ◌+◌, ◌-◌, ◌^◌, ◌<◌, ◌≤◌, min, Bool, true, false, cond, ◌||◌, eqb, leb, ◌≢◌, List, [], ◌∷◌, ◌++◌}
use Rattle.dist_core_ends.proofs.Words.{length, drop, set, replicate, OnOk, OnErr, IsOk, slice_get, Some, None, Ok, Err, filter, Option, Result, sym, refl, ap}
use Rattle.dist_core_ends.proofs.Words.{◌∙◌, subst, inl, inr, append_assoc, arith, length-append, eqb-true, le-leb, cases_eq, lt-leb, leb_tells, nat_tests}
use Rattle.dist_core_ends.proofs.Words.{slice_get-get_or, nat_eq_equiv, keys_of, lookup, rows_forgotten, without_row_cause, AreWithin, IsSlot, all_causes}
use Rattle.dist_core_ends.proofs.Words.{causes_forgotten, is_slot, kept_row, row_by, rows_from, stays_kept, EndPlace, Why}
use Rattle.std.proofs.lemmas.{List.length-replicate, List.set-append_right, Map.Entries.option_filter, Map.Entries.lookup-filter-values}
use Rattle.std.specs.List.{IsDistinct}
use Rattle.dist_core_ends.specs.declared.slots.EndPlace.TheVariants as row
use Rattle.dist_core_ends.specs.declared.why.Why.TheVariants as why

pub rows-length : (f : ℕ → Option EndPlace) (b : ℕ) (ws : List Why) → length (rows_from f b ws) ≡ length ws
rows-length f b [] = refl
rows-length f b (w ∷ ws) = ap suc (rows-length f (suc b) ws)

rows-get : (f : ℕ → Option EndPlace) (b : ℕ) (ws : List Why) (i : ℕ) (w : Why) → slice_get ws i ≡ Some w → slice_get (rows_from f b ws) i ≡ Some (row_by (f (b + i)) w)
rows-get f b [] i w h = absurd cc
rows-get f b (x ∷ ws) zero w h = let same : x ≡ w = cc in let at : b ≡ b + 0 = omega arith in λ j. Some (row_by (f (at j)) (same j))
rows-get f b (x ∷ ws) (suc i) w h = let at : suc b + i ≡ b + suc i = omega arith in rows-get f (suc b) ws i w h ∙ ap (λ (k : ℕ). Some (row_by (f k) w)) at

-- only rows of other numbers change
rows-same : (f g : ℕ → Option EndPlace) (b : ℕ) (ws : List Why) → ((q : ℕ) → b ≤ q → q < b + length ws → g q ≡ f q) → rows_from g b ws ≡ rows_from f b ws
rows-same f g b [] h = refl
rows-same f g b (w ∷ ws) h =
    let here : g b ≡ f b = h b (omega arith) (omega arith) in
    let rest : rows_from g (suc b) ws ≡ rows_from f (suc b) ws = rows-same f g (suc b) ws (λ q u v. h q (omega (arith, u)) (omega (arith, v))) in
    λ j. row_by (here j) w ∷ rest j

-- an end is closed
rows-set : (f g : ℕ → Option EndPlace) (b : ℕ) (ws : List Why) (i : ℕ) (w : Why) → g (b + i) ≡ None → ((q : ℕ) → q ≢ b + i → g q ≡ f q) → rows_from g b (set ws i w) ≡ set (rows_from f b ws) i (row.Closed w)
rows-set f g b [] i w n h = refl
rows-set f g b (x ∷ ws) zero w n h =
    let at : b + 0 ≡ b = omega arith in
    let here : g b ≡ None = ap g (sym at) ∙ n in
    let rest : rows_from g (suc b) ws ≡ rows_from f (suc b) ws = rows-same f g (suc b) ws (λ q u v. h q (λ e. omega (arith, u, e))) in
    λ j. row_by (here j) w ∷ rest j
rows-set f g b (x ∷ ws) (suc i) w n h =
    let at : suc b + i ≡ b + suc i = omega arith in
    let here : g b ≡ f b = h b (λ e. omega (arith, e)) in
    let rest : rows_from g (suc b) (set ws i w) ≡ set (rows_from f (suc b) ws) i (row.Closed w) = rows-set f g (suc b) ws i w (ap g at ∙ n) (λ q d. h q (λ e. d (e ∙ sym at))) in
    λ j. row_by (here j) x ∷ rest j

-- one more row is there
rows-push : (f g : ℕ → Option EndPlace) (b : ℕ) (ws : List Why) (w : Why) (r : EndPlace) → row_by (g (b + length ws)) w ≡ r → ((q : ℕ) → q ≢ b + length ws → g q ≡ f q) → rows_from g b (ws ++ w ∷ []) ≡ rows_from f b ws ++ r ∷ []
rows-push f g b [] w r n h = let at : b ≡ b + 0 = omega arith in ap (λ (x : EndPlace). x ∷ []) (ap (λ (k : ℕ). row_by (g k) w) at ∙ n)
rows-push f g b (x ∷ ws) w r n h =
    let at : suc b + length ws ≡ b + suc (length ws) = omega arith in
    let here : g b ≡ f b = h b (λ e. omega (arith, e)) in
    let rest : rows_from g (suc b) (ws ++ w ∷ []) ≡ rows_from f (suc b) ws ++ r ∷ [] = rows-push f g (suc b) ws w r (ap (λ (k : ℕ). row_by (g k) w) at ∙ n) (λ q d. h q (λ e. d (e ∙ sym at))) in
    λ j. row_by (here j) x ∷ rest j

within-some : (ws : List Why) (i : ℕ) → i < length ws → (w : Why) × (slice_get ws i ≡ Some w)
within-some ws i h = (_, slice_get-get_or ws i why.Ended h)

-- a number that has a row of its own
pub rows-row : (f : ℕ → Option EndPlace) (ws : List Why) (i : ℕ) (r : EndPlace) → i < length ws → f i ≡ Some r → slice_get (rows_from f 0 ws) i ≡ Some r
rows-row f ws i r h e = let w = within-some ws i h in let at : 0 + i ≡ i = omega arith in rows-get f 0 ws i (w.0) (w.1) ∙ ap (λ (o : Option EndPlace). Some (row_by o (w.0))) (ap f at ∙ e)

-- a number without one: a closed end
pub rows-cause : (f : ℕ → Option EndPlace) (ws : List Why) (i : ℕ) (w : Why) → slice_get ws i ≡ Some w → f i ≡ None → slice_get (rows_from f 0 ws) i ≡ Some (row.Closed w)
rows-cause f ws i w there e = let at : 0 + i ≡ i = omega arith in rows-get f 0 ws i w there ∙ ap (λ (o : Option EndPlace). Some (row_by o w)) (ap f at ∙ e)

other-key : (i q : ℕ) → (q ≡ i → ⊥) → eqb i q ≡ false
other-key i q d = elim (cases_eq q i) [ inl e ↦ absurd (d e) | inr n ↦ grind (arith, nat_tests, n) ]

-- all rows, from number 0 on, when an end is closed
pub rows-shut : (f g : ℕ → Option EndPlace) (ws : List Why) (i : ℕ) (w : Why) → g i ≡ None → ((q : ℕ) → eqb i q ≡ false → g q ≡ f q) → rows_from g 0 (set ws i w) ≡ set (rows_from f 0 ws) i (row.Closed w)
rows-shut f g ws i w n h = let at : 0 + i ≡ i = omega arith in rows-set f g 0 ws i w (ap g at ∙ n) (λ q d. h q (other-key i q (λ e. d (e ∙ sym at))))

pub rows-more : (f g : ℕ → Option EndPlace) (ws : List Why) (i : ℕ) (w : Why) (r : EndPlace) → i ≡ length ws → row_by (g i) w ≡ r → ((q : ℕ) → eqb i q ≡ false → g q ≡ f q) → rows_from g 0 (ws ++ w ∷ []) ≡ rows_from f 0 ws ++ r ∷ []
rows-more f g ws i w r len n h = let at : 0 + length ws ≡ i = omega (arith, len) in rows-push f g 0 ws w r (ap (λ (k : ℕ). row_by (g k) w) at ∙ n) (λ q d. h q (other-key i q (λ e. d (e ∙ sym at))))

-- an end has another row of its own
rows-place : (f g : ℕ → Option EndPlace) (b : ℕ) (ws : List Why) (i : ℕ) (r : EndPlace) → g (b + i) ≡ Some r → ((q : ℕ) → q ≢ b + i → g q ≡ f q) → rows_from g b ws ≡ set (rows_from f b ws) i r
rows-place f g b [] i r n h = refl
rows-place f g b (x ∷ ws) zero r n h =
    let at : b + 0 ≡ b = omega arith in
    let here : g b ≡ Some r = ap g (sym at) ∙ n in
    let rest : rows_from g (suc b) ws ≡ rows_from f (suc b) ws = rows-same f g (suc b) ws (λ q u v. h q (λ e. omega (arith, u, e))) in
    λ j. row_by (here j) x ∷ rest j
rows-place f g b (x ∷ ws) (suc i) r n h =
    let at : suc b + i ≡ b + suc i = omega arith in
    let here : g b ≡ f b = h b (λ e. omega (arith, e)) in
    let rest : rows_from g (suc b) ws ≡ set (rows_from f (suc b) ws) i r = rows-place f g (suc b) ws i r (ap g at ∙ n) (λ q d. h q (λ e. d (e ∙ sym at))) in
    λ j. row_by (here j) x ∷ rest j

pub rows-placed : (f g : ℕ → Option EndPlace) (ws : List Why) (i : ℕ) (r : EndPlace) → g i ≡ Some r → ((q : ℕ) → eqb i q ≡ false → g q ≡ f q) → rows_from g 0 ws ≡ set (rows_from f 0 ws) i r
rows-placed f g ws i r n h = let at : 0 + i ≡ i = omega arith in rows-place f g 0 ws i r (ap g at ∙ n) (λ q d. h q (other-key i q (λ e. d (e ∙ sym at))))

-- an open end has a row of its own
pub place-of-slot : (f : ℕ → Option EndPlace) (ws : List Why) (i : ℕ) → i < length ws → IsSlot (slice_get (rows_from f 0 ws) i) → f i ≡ None → ⊥
place-of-slot f ws i h s none =
    let w = within-some ws i h in
    let P : Option EndPlace → Type 0 = λ o. IsSlot o in
    subst P (rows-cause f ws i (w.0) (w.1) none) s

pub slot-within : (rows : List EndPlace) (i : ℕ) → IsSlot (slice_get rows i) → i < length rows
slot-within [] i s = absurd s
slot-within (r ∷ rows) zero s = omega arith
slot-within (r ∷ rows) (suc i) s = omega (arith, slot-within rows i s)

-- ---- the causes of all ends

causes-none : (ws : List Why) → causes_forgotten 0 ws ≡ ws
causes-none [] = refl
causes-none (w ∷ ws) = refl

pub all-length : (b : ℕ) (ws : List Why) → length (all_causes b ws) ≡ b + length ws
all-length b ws = omega (arith, length-append {A = Why}, length-replicate {A = Why})

pub all-set : (b : ℕ) (ws : List Why) (i : ℕ) (w : Why) → b ≤ i → all_causes b (set ws (i - b) w) ≡ set (all_causes b ws) i w
all-set b ws i w h = sym (set-append_right (replicate b why.Ended) ws b i w (length-replicate b why.Ended) h)

pub all-more : (b : ℕ) (ws : List Why) (w : Why) → all_causes b (ws ++ w ∷ []) ≡ all_causes b ws ++ w ∷ []
all-more b ws w = sym (append_assoc (replicate b why.Ended) ws (w ∷ []))

-- ---- forgotten causes

-- causes below the base are forgotten already
pub all-forgotten : (b n : ℕ) (ws : List Why) → n ≤ b → causes_forgotten n (all_causes b ws) ≡ all_causes b ws
all-forgotten b zero ws h = causes-none (all_causes b ws)
all-forgotten zero (suc n) ws h = absurd (omega (arith, h))
all-forgotten (suc b) (suc n) ws h = ap (λ xs. why.Ended ∷ xs) (all-forgotten b n ws (omega (arith, h)))

-- the base rises
drop-forgotten : (n : ℕ) (ws : List Why) → n ≤ length ws → all_causes n (drop n ws) ≡ causes_forgotten n ws
drop-forgotten zero ws h = sym (causes-none ws)
drop-forgotten (suc n) [] h = absurd (omega (arith, h))
drop-forgotten (suc n) (w ∷ ws) h = ap (λ xs. why.Ended ∷ xs) (drop-forgotten n ws (omega (arith, h)))

all-drop-at : (b n m : ℕ) (ws : List Why) → m ≡ b + n → n ≤ length ws → all_causes m (drop n ws) ≡ causes_forgotten m (all_causes b ws)
all-drop-at zero n m ws e h = let same : m ≡ n = omega (arith, e) in ap (λ k. all_causes k (drop n ws)) same ∙ drop-forgotten n ws h ∙ ap (λ k. causes_forgotten k ws) (sym same)
all-drop-at (suc b) n zero ws e h = absurd (omega (arith, e))
all-drop-at (suc b) n (suc m) ws e h = ap (λ xs. why.Ended ∷ xs) (all-drop-at b n m ws (omega (arith, e)) h)

pub all-drop : (b m : ℕ) (ws : List Why) → b ≤ m → m ≤ b + length ws → all_causes m (drop (m - b) ws) ≡ causes_forgotten m (all_causes b ws)
all-drop b m ws h g = all-drop-at b (m - b) m ws (omega (arith, h)) (omega (arith, h, g))

-- a row of its own that is kept or dropped
kept-below : (below q : ℕ) (o : Option EndPlace) (w : Why) → q < below → row_by (kept_row below q o) why.Ended ≡ without_row_cause (row_by o w)
kept-below below q None w h = refl
kept-below below q (Some r) w h = by r (lt-leb below q h)
  where
    by : (r : EndPlace) → leb below q ≡ false → row_by (kept_row below q (Some r)) why.Ended ≡ without_row_cause r
    by (row.Slot k) e = ap (λ b. row_by (cond (b || true) (Some (row.Slot k)) None) why.Ended) e
    by (row.Closed v) e = ap (λ b. row_by (cond (b || false) (Some (row.Closed v)) None) why.Ended) e

kept-from : (below q : ℕ) (o : Option EndPlace) → below ≤ q → kept_row below q o ≡ o
kept-from below q None h = refl
kept-from below q (Some r) h = ap (λ b. cond (b || is_slot r) (Some r) None) (le-leb below q h)

rows-forgotten-from : (f g : ℕ → Option EndPlace) (below b n : ℕ) (ws : List Why) → b + n ≡ below → ((q : ℕ) → g q ≡ kept_row below q (f q)) → rows_from g b (causes_forgotten n ws) ≡ rows_forgotten n (rows_from f b ws)
rows-forgotten-from f g below b n [] e h = refl
rows-forgotten-from f g below b zero (w ∷ ws) e h = rows-same f g b (w ∷ ws) (λ q u v. h q ∙ kept-from below q (f q) (omega (arith, e, u)))
rows-forgotten-from f g below b (suc n) (w ∷ ws) e h =
    let here : row_by (g b) why.Ended ≡ without_row_cause (row_by (f b) w) = ap (λ o. row_by o why.Ended) (h b) ∙ kept-below below b (f b) w (omega (arith, e)) in
    let rest : rows_from g (suc b) (causes_forgotten n ws) ≡ rows_forgotten n (rows_from f (suc b) ws) = rows-forgotten-from f g below (suc b) n ws (omega (arith, e)) h in
    λ j. here j ∷ rest j

pub rows-forgotten : (f g : ℕ → Option EndPlace) (below : ℕ) (ws : List Why) → ((q : ℕ) → g q ≡ kept_row below q (f q)) → rows_from g 0 (causes_forgotten below ws) ≡ rows_forgotten below (rows_from f 0 ws)
rows-forgotten f g below ws h = rows-forgotten-from f g below 0 below ws (omega arith) h

causes-past : (b c : ℕ) (ws : List Why) → length ws ≤ b → length ws ≤ c → causes_forgotten b ws ≡ causes_forgotten c ws
causes-past b c [] h g = refl
causes-past zero c (w ∷ ws) h g = absurd (omega (arith, h))
causes-past (suc b) zero (w ∷ ws) h g = absurd (omega (arith, g))
causes-past (suc b) (suc c) (w ∷ ws) h g = ap (λ xs. why.Ended ∷ xs) (causes-past b c ws (omega (arith, h)) (omega (arith, g)))

-- up to a number, or to the last cause
pub causes-upto : (i b : ℕ) (ws : List Why) → i ≡ min b (length ws) → causes_forgotten i ws ≡ causes_forgotten b ws
causes-upto i b ws h = elim (leb_tells b (length ws)) [ inl f ↦ (let same : i ≡ b = omega (arith, h, f.1) in ap (λ n. causes_forgotten n ws) same) | inr f ↦ causes-past i b ws (omega (arith, h, f.1)) (omega (arith, f.1)) ]

-- what an insertion did that did not fail
pub done : {X E : Type 0} (P : Type 0) (r : Result X E) (x : X) → r ≡ Ok x → OnOk r P → P
done P (Ok y) x is h = h
done P (Err e) x is h = absurd cc

-- ---- no number that was not given out has a row

pub within-more : (f g : ℕ → Option EndPlace) (b : ℕ) (ws : List Why) (n : ℕ) (w : Why) → AreWithin b ws f → n ≡ b + length ws → n < 2 ^ 32 → ((q : ℕ) → eqb n q ≡ false → g q ≡ f q) → AreWithin b (ws ++ w ∷ []) g
within-more f g b ws n w a len few h =
    let longer : length (ws ++ w ∷ []) ≡ length ws + 1 = omega (arith, length-append {A = Why}) in
    record {
      beyond = λ i past. h i (other-key n i (λ e. omega (arith, past, longer, len, e))) ∙ a.beyond i (omega (arith, past, longer));
      few = omega (arith, longer, len, few);
    }

-- an insertion in the place of another entry does not fail
pub not-refused : {X E : Type 0} (r : Result X E) (o : Option EndPlace) → OnErr r (o ≡ None) → (o ≡ None → ⊥) → IsOk r
not-refused (Ok x) o h d = refl
not-refused (Err e) o h d = absurd (d h)

-- ---- a filtered map, at a key

same-filter : (test : ℕ → Bool) (p p' : ℕ × EndPlace → Bool) (es : List (ℕ × EndPlace)) → ((e : ℕ × EndPlace) → test e.0 ≡ true → p e ≡ p' e) → lookup test (filter p es) ≡ lookup test (filter p' es)
same-filter test p p' [] h = refl
same-filter test p p' (e ∷ es) h = grind (arith, h e, same-filter test p p' es h)

option-kept : (below q : ℕ) (o : Option EndPlace) → option_filter (stays_kept below q) o ≡ kept_row below q o
option-kept below q None = refl
option-kept below q (Some r) = refl

-- which of the rows of their own are kept
pub places-kept : (below : ℕ) (es : List (ℕ × EndPlace)) → IsDistinct eqb (keys_of es) → (q : ℕ) → lookup (eqb q) (filter (λ (e : ℕ × EndPlace). stays_kept below e.0 e.1) es) ≡ kept_row below q (lookup (eqb q) es)
places-kept below es d q =
    same-filter (eqb q) (λ (e : ℕ × EndPlace). stays_kept below e.0 e.1) (λ (e : ℕ × EndPlace). stays_kept below q e.1) es (λ e h. ap (λ (k : ℕ). stays_kept below k e.1) (sym (eqb-true q e.0 h)))
    ∙ lookup-filter-values nat_eq_equiv (stays_kept below q) q es d
    ∙ option-kept below q (lookup (eqb q) es)
