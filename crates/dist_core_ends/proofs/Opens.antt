-- How many ends are open when one changes.
use Rattle.dist_core_ends.proofs.Words.{◌≡◌, ℕ, zero, suc, ◌+◌, ◌<◌, Bool, true, false, cond, List, [], ◌∷◌, ◌++◌, set, slice_get, Some, count_by, ap, ◌∙◌}
use Rattle.dist_core_ends.proofs.Words.{arith, sum_by-cons, one_if, is_open, End}

counted : (b : Bool) (n : ℕ) → cond b 1 0 + n ≡ n + one_if b
counted true n = omega arith
counted false n = omega arith

pub count-cons : (x : End) (es : List End) → count_by is_open (x ∷ es) ≡ count_by is_open es + one_if (is_open x)
count-cons x es = sum_by-cons (λ (y : End). cond (is_open y) 1 0) x es ∙ counted (is_open x) (count_by is_open es)

pub count-set : (es : List End) (i : ℕ) (e d : End) → slice_get es i ≡ Some d → count_by is_open (set es i e) + one_if (is_open d) ≡ count_by is_open es + one_if (is_open e)
count-set [] i e d h = absurd cc
count-set (x ∷ es) zero e d h =
    let same : x ≡ d = cc in
    let was : one_if (is_open x) ≡ one_if (is_open d) = ap (λ (y : End). one_if (is_open y)) same in
    ap (λ m. m + one_if (is_open d)) (count-cons e es) ∙ omega (arith, was, count-cons x es)
count-set (x ∷ es) (suc i) e d h =
    ap (λ m. m + one_if (is_open d)) (count-cons x (set es i e)) ∙ omega (arith, count-set es i e d h, count-cons x es)

pub count-push : (es : List End) (e : End) → count_by is_open (es ++ e ∷ []) ≡ count_by is_open es + one_if (is_open e)
count-push [] e = count-cons e []
count-push (x ∷ es) e = count-cons x (es ++ e ∷ []) ∙ omega (arith, count-push es e, count-cons x es)

-- where there is an open end, at least one is open
pub count-some : (es : List End) (i : ℕ) (d : End) → slice_get es i ≡ Some d → is_open d ≡ true → 0 < count_by is_open es
count-some [] i d h o = absurd cc
count-some (x ∷ es) zero d h o =
    let same : x ≡ d = cc in
    let was : one_if (is_open x) ≡ 1 = ap (λ (y : End). one_if (is_open y)) same ∙ ap one_if o in
    omega (arith, was, count-cons x es)
count-some (x ∷ es) (suc i) d h o = omega (arith, count-some es i d h o, count-cons x es)
