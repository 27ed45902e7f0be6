-- Rows, the last of which stand in an array.
use Rattle.dist_core_ends.proofs.Words.{◌≡◌, ℕ, zero, suc, ◌+◌, ◌-◌, ◌<◌, ◌≤◌, min, List, [], ◌∷◌, ◌++◌, length, get_or, set, slice_get, Some, sym, refl, ap}
use Rattle.dist_core_ends.proofs.Words.{◌∙◌, inl, inr, arith, leb_tells, slice_get_read, rows_forgotten, without_row_cause, EndPlace}

pub forgotten-length : (b : ℕ) (xs : List EndPlace) → length (rows_forgotten b xs) ≡ length xs
forgotten-length b [] = refl
forgotten-length zero (x ∷ xs) = refl
forgotten-length (suc b) (x ∷ xs) = ap suc (forgotten-length b xs)

pub forgotten-none : (xs : List EndPlace) → rows_forgotten 0 xs ≡ xs
forgotten-none [] = refl
forgotten-none (x ∷ xs) = refl

forgotten-at : (xs ys : List EndPlace) (b c : ℕ) → c ≡ b - length xs → rows_forgotten b xs ++ rows_forgotten c ys ≡ rows_forgotten b (xs ++ ys)
forgotten-at [] ys b c e = let same : c ≡ b = omega (arith, e) in ap (λ k. rows_forgotten k ys) same
forgotten-at (x ∷ xs) ys zero c e = let same : c ≡ 0 = omega (arith, e) in ap (λ zs. x ∷ xs ++ zs) (ap (λ k. rows_forgotten k ys) same ∙ forgotten-none ys)
forgotten-at (x ∷ xs) ys (suc b) c e = ap (λ zs. without_row_cause x ∷ zs) (forgotten-at xs ys b c (omega (arith, e)))

pub forgotten-both : (xs ys : List EndPlace) (b c n : ℕ) → n ≡ length xs → c ≡ b - n → rows_forgotten b xs ++ rows_forgotten c ys ≡ rows_forgotten b (xs ++ ys)
forgotten-both xs ys b c n e f = forgotten-at xs ys b c (omega (arith, e, f))

-- one more row
pub forgotten-more : (i : ℕ) (xs : List EndPlace) (r : EndPlace) → slice_get (rows_forgotten i xs) i ≡ Some r → set (rows_forgotten i xs) i (without_row_cause r) ≡ rows_forgotten (suc i) xs
forgotten-more i [] r e = absurd cc
forgotten-more zero (x ∷ xs) r e = let same : r ≡ x = cc in ap (λ y. set (x ∷ xs) 0 (without_row_cause y)) same ∙ ap (λ zs. without_row_cause x ∷ zs) (sym (forgotten-none xs))
forgotten-more (suc i) (x ∷ xs) r e = ap (λ zs. without_row_cause x ∷ zs) (forgotten-more i xs r e)

-- one more row of an array is forgotten
pub forgotten-next : (i n : ℕ) (xs now : List EndPlace) (r kept : EndPlace) → now ≡ rows_forgotten i xs → i < length xs → r ≡ get_or now i r → kept ≡ without_row_cause r → n ≡ i + 1 → set now i kept ≡ rows_forgotten n xs
forgotten-next i n xs now r kept is h e f more =
    let long : length now ≡ length xs = ap length is ∙ forgotten-length i xs in
    let there : slice_get now i ≡ Some r = slice_get_read now (length now) i r refl (omega (arith, h, long)) e in
    let next : suc i ≡ n = omega (arith, more) in
    ap (λ ys. set ys i kept) is
    ∙ ap (λ (y : EndPlace). set (rows_forgotten i xs) i y) f
    ∙ forgotten-more i xs r (ap (λ ys. slice_get ys i) (sym is) ∙ there)
    ∙ ap (λ (k : ℕ). rows_forgotten k xs) next

forgotten-past : (b c : ℕ) (xs : List EndPlace) → length xs ≤ b → length xs ≤ c → rows_forgotten b xs ≡ rows_forgotten c xs
forgotten-past b c [] h g = refl
forgotten-past zero c (x ∷ xs) h g = absurd (omega (arith, h))
forgotten-past (suc b) zero (x ∷ xs) h g = absurd (omega (arith, g))
forgotten-past (suc b) (suc c) (x ∷ xs) h g = ap (λ zs. without_row_cause x ∷ zs) (forgotten-past b c xs (omega (arith, h)) (omega (arith, g)))

-- up to a number, or to the last row
pub forgotten-upto : (i b : ℕ) (xs : List EndPlace) → i ≡ min b (length xs) → rows_forgotten i xs ≡ rows_forgotten b xs
forgotten-upto i b xs h = elim (leb_tells b (length xs)) [ inl f ↦ (let same : i ≡ b = omega (arith, h, f.1) in ap (λ n. rows_forgotten n xs) same) | inr f ↦ forgotten-past i b xs (omega (arith, h, f.1)) (omega (arith, f.1)) ]
