-- Lists in which no two elements are one.
use Rattle.std.proofs.Common.{◌≢◌, ℕ, ◌+◌, ◌<◌, ◌≤◌, List, length, take, get_or, arith, subst, sym, length-take}
use Rattle.std.proofs.lemmas.List.{take_more, Quantifiers.all_pairs_push}
use Rattle.std.specs.List.{AllPairs}

-- one element is no two
pub apart_few : {X : Type 0} (xs : List X) (n : ℕ) → n ≤ 1 → AllPairs (λ x y. x ≢ y) (take n xs)
apart_few xs n few i j d less within = absurd (omega (arith, length-take n xs, few, less, within))

-- one element more, which is none of those before
pub apart_more : {X : Type 0} (xs : List X) (n : ℕ) (d : X) → n < length xs → AllPairs (λ x y. x ≢ y) (take n xs)
    → ((k : ℕ) (e : X) → k < length (take n xs) → get_or (take n xs) k e ≢ get_or xs n d) → AllPairs (λ x y. x ≢ y) (take (n + 1) xs)
apart_more xs n d less apart other = subst (AllPairs (λ x y. x ≢ y)) (sym (take_more xs n d less)) (all_pairs_push (λ x y. x ≢ y) (take n xs) (get_or xs n d) apart other)
