-- A list whose elements have the values of another list, place by place; and one whose elements stand in the order of their places.
use Rattle.std.proofs.Common.{◌≡◌, ℕ, Bool, true, false, if◌then◌else◌, zero, suc, ◌+◌, ◌-◌, ◌<◌, ◌≤◌, List, [], ◌∷◌, ◌++◌, length, get_or, map}
use Rattle.std.proofs.Common.{refl, sym, ap, ◌∙◌, zero-add, add-zero, add-one, arith}
use Rattle.std.specs.Prelude.{IsPermutation}
use Rattle.std.specs.{List.range_with_len, List.sum_by, List.Sorted.IsNonDecreasingBy}
use Rattle.std.proofs.lemmas.List.{same_lists, get_or-map, get_or_default, length_push, map_push}
use Rattle.std.proofs.lemmas.Simd.{map-map}
use Rattle.std.proofs.lemmas.List.FromFn.{get_or-range_with_len}
use Rattle.std.proofs.lemmas.List.Sums.{sum_by-cons}
use Rattle.std.proofs.lemmas.List.Sorted.{All-permutation, IsPermutation-map, IsPermutation-trans, length_permutation, sum_by-IsPermutation}

-- the values of the elements of one list are the elements of the other
pub map_by_places : {X Y : Type 0} (f : X → Y) (xs : List X) (ys : List Y) (e : Y) → length xs ≡ length ys
    → ((i : ℕ) (d : X) → i < length ys → f (get_or xs i d) ≡ get_or ys i e) → map f xs ≡ ys
map_by_places f [] [] e len each = refl
map_by_places f [] (y ∷ ys) e len each = absurd (omega (arith, len))
map_by_places f (x ∷ xs) [] e len each = absurd (omega (arith, len))
map_by_places f (x ∷ xs) (y ∷ ys) e len each = rw (each 0 x (omega arith), map_by_places f xs ys e (omega (arith, len)) (λ i d l. each (suc i) d (omega (arith, l)))) refl

-- the numbers do not fall, from low on
abbrev Rises : ℕ → List ℕ → Type 0
Rises low [] = Unit {0}
Rises low (n ∷ ns) = (low ≤ n) × Rises n ns

none_below : (b low : ℕ) (ns : List ℕ) → b ≤ low → Rises low ns → sum_by (λ n. b - n) ns ≡ 0
none_below b low [] le r = refl
none_below b low (n ∷ ns) le r =
    let rest : sum_by (λ n. b - n) ns ≡ 0 = none_below b n ns (omega (arith, r.0)) r.1 in
    omega (arith, sum_by-cons (λ n. b - n) n ns, r.0)

-- the first of these is the least
leads : (x y : ℕ) (xs ys : List ℕ) → Rises x xs → sum_by (λ n. x - n) (y ∷ ys) ≡ sum_by (λ n. x - n) (x ∷ xs) → x ≤ y
leads x y xs ys r same =
    let rest : sum_by (λ n. x - n) xs ≡ 0 = none_below x x xs (omega arith) r in
    omega (arith, sum_by-cons (λ n. x - n) y ys, sum_by-cons (λ n. x - n) x xs, same)

-- rising numbers that have the same sums are the same
rising_same : (a b : ℕ) (xs ys : List ℕ) → Rises a xs → Rises b ys → ((f : ℕ → ℕ) → sum_by f ys ≡ sum_by f xs) → xs ≡ ys
rising_same a b [] [] r q same = refl
rising_same a b [] (y ∷ ys) r q same = absurd (omega (arith, sum_by-cons (λ n. 1) y ys, same (λ n. 1)))
rising_same a b (x ∷ xs) [] r q same = absurd (omega (arith, sum_by-cons (λ n. 1) x xs, same (λ n. 1)))
rising_same a b (x ∷ xs) (y ∷ ys) r q same =
    let first : x ≡ y = omega (arith, leads x y xs ys r.1 (same (λ n. x - n)), leads y x ys xs q.1 (sym (same (λ n. y - n)))) in
    let rest : xs ≡ ys = rising_same x y xs ys r.1 q.1
    (λ f. omega (arith, same f, ap f first, sum_by-cons f x xs, sum_by-cons f y ys)) in
    cc

rises : {X : Type 0} (place : X → ℕ) (low : ℕ) (us : List X)
    → ((d : X) → 0 < length us → low ≤ place (get_or us 0 d)) → IsNonDecreasingBy place us → Rises low (map place us)
rises place low [] least up = tt
rises place low (u ∷ us) least up = (
  least u (omega arith),
  rises place (place u) us (λ d l. up 0 (suc 0) d (omega arith) (omega (arith, l)))
      (λ i j d le l. up (suc i) (suc j) d (omega (arith, le)) (omega (arith, l))),
)

range_rises : (low a n : ℕ) → low ≤ a → Rises low (range_with_len a n)
range_rises low a zero le = tt
range_rises low a (suc n) le = (le, range_rises a (a + 1) n (omega arith))

range_more : (a n : ℕ) → range_with_len a (suc n) ≡ range_with_len a n ++ (a + n) ∷ []
range_more a zero = rw add-zero refl
range_more a (suc n) = let last : (a + 1) + n ≡ a + suc n = omega arith in rw (range_more (a + 1) n, last) refl

-- one element more, which knows its place, if there is room for it
pub one_place_more : {X : Type 0} (place : X → ℕ) (is_there : Bool) (xs ys : List X) (x : X)
    → map place xs ≡ range_with_len 0 (length xs) → place x ≡ length xs → ys ≡ (if is_there then xs ++ x ∷ [] else xs) → map place ys ≡ range_with_len 0 (length ys)
one_place_more place true xs ys x placed at is = rw (is, map_push place xs x, length_push xs x, add-one, range_more 0 (length xs), placed, at, zero-add) refl
one_place_more place false xs ys x placed at is = rw is placed

-- the place of an element is where it stands
place_at : {X : Type 0} (place : X → ℕ) (xs : List X) (n : ℕ) → length xs ≡ n → map place xs ≡ range_with_len 0 n
    → (k : ℕ) (d : X) → k < length xs → place (get_or xs k d) ≡ k
place_at place xs n long same k d l =
    sym (get_or-map place xs k d 0 l) ∙ ap (λ ns. get_or ns k 0) same ∙ get_or-range_with_len 0 n k 0 (omega (arith, l, long)) ∙ zero-add k

-- elements that know their places stand in order again where what was made of them is sorted by these
pub in_order : {X Y : Type 0} (f : Y → X) (place : X → ℕ) (ts : List X) (ps qs : List Y) → map place ts ≡ range_with_len 0 (length ts)
    → IsPermutation ts (map f ps) → IsPermutation ps qs → IsNonDecreasingBy (λ y. place (f y)) qs → map f qs ≡ ts
in_order f place ts ps qs placed queued moved up =
    let us = map f qs in
    let all : IsPermutation ts us = IsPermutation-trans ts (map f ps) us queued (IsPermutation-map f ps qs moved) in
    let long : length us ≡ length ts = length_permutation ts us all in
    let rising : Rises 0 (map place us) = rw (map-map place f qs) (rises (λ y. place (f y)) 0 qs (λ d l. omega arith) up) in
    let sums : (g : ℕ → ℕ) → sum_by g (map place us) ≡ sum_by g (range_with_len 0 (length ts)) =
    λ g. sum_by-IsPermutation g (map place ts) (map place us) (IsPermutation-map place ts us all) ∙ ap (sum_by g) placed in
    let same = rising_same 0 0 (range_with_len 0 (length ts)) (map place us) (range_rises 0 0 (length ts) (omega arith)) rising sums in
    let at = All-permutation (λ u. (e : _) → get_or ts (place u) e ≡ u) ts us all
    (λ k d l e. ap (λ i. get_or ts i e) (place_at place ts (length ts) refl placed k d l) ∙ get_or_default ts k e d l) in
    same_lists us ts long (λ k d l. sym (ap (λ i. get_or ts i d) (sym (place_at place us (length ts) long (sym same) k d l)) ∙ at k d l d))
