-- Lines in the order of their tickets: there is one list of them where tickets rise and none stands twice.
use Rattle.dist_audit.proofs.Words.{◌≡◌, ℕ, suc, ◌<◌, ◌≤◌, true, false, not, eqb, ◌⊎◌, List, [], ◌∷◌, ◌++◌, map, ◌==◌, All, IsPermutation, sym, refl, ap, ◌∙◌}
use Rattle.dist_audit.proofs.Words.{subst, inl, inr, arith, ltb-true, and_parts, not-false, or_parts, nat_tests, All-from_recursion, recursion_from_All}
use Rattle.dist_audit.proofs.Words.{AllByRecursion, IsDistinct, list_any, IsNonDecreasingBy, Closed, Line, falls, has_ticket, has_ticket_in, rises, rises_in}
use Rattle.dist_audit.proofs.Words.{starts_above, twice, AreLinesOf, NodeLine, lines_at, lines_by_node, lines_from, ticket_of}
use Rattle.dist_audit.proofs.Either.{distinct-none}
use Rattle.std.proofs.lemmas.List.Sorted.{IsPermutation-sym, All-permutation, IsPermutation-map, IsPermutation-trans}
use Rattle.std.proofs.lemmas.Map.Keys.{IsDistinct-head, IsDistinct-tail, IsDistinct-cons, IsDistinct-IsPermutation}

-- x is one of these
abbrev Has : {X : Type 0} → X → List X → Type 0
Has x [] = ⊥
Has x (y ∷ ys) = (x ≡ y) ⊎ Has x ys

pub flips : (a b : ℕ) → eqb a b ≡ eqb b a
flips a b = grind (arith, nat_tests)

less : (a b : ℕ) → a ≤ b → eqb a b ≡ false → a < b
less a b h e = grind (arith, nat_tests)

has-more : {X : Type 0} (y : X) (ys xs : List X) → AllByRecursion (λ x. Has x ys) xs → AllByRecursion (λ x. Has x (y ∷ ys)) xs
has-more y ys [] h = tt
has-more y ys (x ∷ xs) h = (inr h.0, has-more y ys xs h.1)

has-all : {X : Type 0} (xs : List X) → AllByRecursion (λ x. Has x xs) xs
has-all [] = tt
has-all (x ∷ xs) = (inl refl, has-more x xs xs (has-all xs))

module _ {X : Type 0} (n : X → ℕ) where
  -- each number is less than all that follow
  abbrev Rises : List X → Type 0
  Rises [] = Unit {0}
  Rises (x ∷ xs) = AllByRecursion (λ y. n x < n y) xs × Rises xs

  above : (m : ℕ) (ys : List X) (x : X) → AllByRecursion (λ y. m < n y) ys → Has x ys → m < n x
  above m [] x h p = absurd p
  above m (y ∷ ys) x h (inl e) = subst (λ z. m < n z) (sym e) h.0
  above m (y ∷ ys) x h (inr p) = above m ys x h.1 p

  one-head : (t u : X) (ts us : List X) → AllByRecursion (λ y. n t < n y) ts → AllByRecursion (λ y. n u < n y) us → Has t (u ∷ us) → Has u (t ∷ ts) → t ≡ u
  one-head t u ts us r s (inl e) q = e
  one-head t u ts us r s (inr p) (inl e) = sym e
  one-head t u ts us r s (inr p) (inr q) = absurd (omega (arith, above (n u) us t s p, above (n t) ts u r q))

  behind : (t u x : X) (us : List X) → t ≡ u → n t < n x → Has x (u ∷ us) → Has x us
  behind t u x us e lt (inl same) = absurd (omega (arith, lt, ap n same, ap n e))
  behind t u x us e lt (inr p) = p

  all-behind : (t u : X) (us xs : List X) → t ≡ u → AllByRecursion (λ y. n t < n y) xs → AllByRecursion (λ x. Has x (u ∷ us)) xs → AllByRecursion (λ x. Has x us) xs
  all-behind t u us [] e r h = tt
  all-behind t u us (x ∷ xs) e r h = (behind t u x us e r.0 h.0, all-behind t u us xs e r.1 h.1)

  one-list : (ts us : List X) → Rises ts → Rises us → AllByRecursion (λ x. Has x us) ts → AllByRecursion (λ x. Has x ts) us → ts ≡ us
  one-list [] [] r s p q = refl
  one-list [] (u ∷ us) r s p q = absurd q.0
  one-list (t ∷ ts) [] r s p q = absurd p.0
  one-list (t ∷ ts) (u ∷ us) r s p q =
      let e = one-head t u ts us r.0 s.0 p.0 q.0 in
      let same = one-list ts us r.1 s.1 (all-behind t u us ts e r.0 p.1) (all-behind u t ts us (sym e) s.0 q.1) in
      (λ i. e i ∷ same i)

  less-all : (x : X) (xs : List X) → AllByRecursion (λ y. n x ≤ n y) xs → AllByRecursion (λ m. eqb (n x) m ≡ false) (map n xs) → AllByRecursion (λ y. n x < n y) xs
  less-all x [] h d = tt
  less-all x (y ∷ ys) h d = (less (n x) (n y) h.0 d.0, less-all x ys h.1 d.1)

  do-rise : (xs : List X) → IsNonDecreasingBy n xs → IsDistinct eqb (map n xs) → Rises xs
  do-rise [] h d = tt
  do-rise (x ∷ xs) h d =
      let first : All (λ y. n x ≤ n y) xs = λ k e few. h 0 (suc k) e (omega arith) (omega (arith, few)) in
      let rest : IsNonDecreasingBy n xs = λ i j e le few. h (suc i) (suc j) e (omega (arith, le)) (omega (arith, few)) in
      (less-all x xs (recursion_from_All (λ y. n x ≤ n y) xs first) (IsDistinct-head eqb (n x) (map n xs) d), do-rise xs rest (IsDistinct-tail eqb (n x) (map n xs) d))

  has-each : (xs ys : List X) → IsPermutation xs ys → AllByRecursion (λ y. Has y xs) ys
  has-each xs ys p = recursion_from_All (λ y. Has y xs) ys (All-permutation (λ y. Has y xs) xs ys p (All-from_recursion (λ y. Has y xs) xs (has-all xs)))

  differ : (xs ys : List X) → IsPermutation xs ys → IsDistinct eqb (map n xs) → IsDistinct eqb (map n ys)
  differ xs ys p d = IsDistinct-IsPermutation eqb flips (map n xs) (map n ys) (IsPermutation-map n xs ys p) d

  -- two orders of the same things whose numbers differ, in neither of which a number falls, are one
  one-order : (xs ts us : List X) → IsDistinct eqb (map n xs) → IsPermutation xs ts → IsNonDecreasingBy n ts → IsPermutation xs us → IsNonDecreasingBy n us → ts ≡ us
  one-order xs ts us d p r q s =
      let over : IsPermutation ts us = IsPermutation-trans ts xs us (IsPermutation-sym xs ts p) q in
      one-list ts us (do-rise ts r (differ xs ts p d)) (do-rise us s (differ xs us q d)) (has-each us ts (IsPermutation-sym ts us over)) (has-each ts us over)

-- ---- tickets

abbrev lines_in : Closed → List Line
lines_in c = let h = c.history in h.items

less-differs : (a b : ℕ) → a < b → eqb a b ≡ false
less-differs a b h = grind (arith, nat_tests)

above-more : (m k : ℕ) (ls : List Line) → m < k → AllByRecursion (λ (l : Line). k < l.ticket) ls → AllByRecursion (λ (l : Line). m < l.ticket) ls
above-more m k [] lt h = tt
above-more m k (l ∷ ls) lt h = (omega (arith, lt, h.0), above-more m k ls lt h.1)

-- tickets that rise are all above the first
above-first : (m : ℕ) (ls : List Line) → starts_above m ls ≡ true → rises ls ≡ true → AllByRecursion (λ (l : Line). m < l.ticket) ls
above-first m [] s r = tt
above-first m (l ∷ ls) s r =
    let lt : m < l.ticket = ltb-true m l.ticket s in
    (lt, above-more m l.ticket ls lt (above-first l.ticket ls (and_parts (starts_above l.ticket ls) (rises ls) r).0 (and_parts (starts_above l.ticket ls) (rises ls) r).1))

-- a ticket below those of a node and of the others differs from them all
apart : (i m : ℕ) (ls : List Line) (ts : List NodeLine) → AllByRecursion (λ (l : Line). m < l.ticket) ls → AllByRecursion (λ k. eqb m k ≡ false) (map ticket_of ts) → AllByRecursion (λ k. eqb m k ≡ false) (map ticket_of (lines_at i ls ++ ts))
apart i m [] ts a h = h
apart i m (l ∷ ls) ts a h = (less-differs m l.ticket a.0, apart i m ls ts a.1 h)

none-here : (i m : ℕ) (ls : List Line) (ts : List NodeLine) → has_ticket m ls ≡ false → AllByRecursion (λ k. eqb m k ≡ false) (map ticket_of ts) → AllByRecursion (λ k. eqb m k ≡ false) (map ticket_of (lines_at i ls ++ ts))
none-here i m [] ts e h = h
none-here i m (l ∷ ls) ts e h = (flips m l.ticket ∙ (or_parts (l.ticket == m) (has_ticket m ls) e).0, none-here i m ls ts (or_parts (l.ticket == m) (has_ticket m ls) e).1 h)

none-there : (i m : ℕ) (cs : List Closed) → has_ticket_in m cs ≡ false → AllByRecursion (λ k. eqb m k ≡ false) (map ticket_of (lines_from i cs))
none-there i m [] e = tt
none-there i m (c ∷ cs) e = none-here i m (lines_in c) (lines_from (suc i) cs) (or_parts (has_ticket m (lines_in c)) (has_ticket_in m cs) e).0 (none-there (suc i) m cs (or_parts (has_ticket m (lines_in c)) (has_ticket_in m cs) e).1)

differ-with : (i : ℕ) (ls : List Line) (cs : List Closed) → rises ls ≡ true → list_any (λ (l : Line). has_ticket_in l.ticket cs) ls ≡ false → IsDistinct eqb (map ticket_of (lines_from (suc i) cs)) → IsDistinct eqb (map ticket_of (lines_at i ls ++ lines_from (suc i) cs))
differ-with i [] cs r t d = d
differ-with i (l ∷ ls) cs r t d =
    let here = (or_parts (has_ticket_in l.ticket cs) (list_any (λ (l : Line). has_ticket_in l.ticket cs) ls) t).0 in
    let later = (or_parts (has_ticket_in l.ticket cs) (list_any (λ (l : Line). has_ticket_in l.ticket cs) ls) t).1 in
    let up = above-first l.ticket ls (and_parts (starts_above l.ticket ls) (rises ls) r).0 (and_parts (starts_above l.ticket ls) (rises ls) r).1 in
    IsDistinct-cons eqb l.ticket (map ticket_of (lines_at i ls ++ lines_from (suc i) cs))
    (apart i l.ticket ls (lines_from (suc i) cs) up (none-there (suc i) l.ticket cs here))
    (differ-with i ls cs (and_parts (starts_above l.ticket ls) (rises ls) r).1 later d)

tickets-differ : (i : ℕ) (cs : List Closed) → falls cs ≡ false → twice cs ≡ false → IsDistinct eqb (map ticket_of (lines_from i cs))
tickets-differ i [] f t = distinct-none eqb
tickets-differ i (c ∷ cs) f t =
    differ-with i (lines_in c) cs
    (not-false (rises_in c) (or_parts (not (rises_in c)) (falls cs) f).0)
    (or_parts (list_any (λ (l : Line). has_ticket_in l.ticket cs) (lines_in c)) (twice cs) t).0
    (tickets-differ (suc i) cs (or_parts (not (rises_in c)) (falls cs) f).1 (or_parts (list_any (λ (l : Line). has_ticket_in l.ticket cs) (lines_in c)) (twice cs) t).1)

-- two lists of all lines in the order of their tickets are one
pub one-order-of-lines : (cs : List Closed) (ts us : List NodeLine) → falls cs ≡ false → twice cs ≡ false → AreLinesOf cs ts → AreLinesOf cs us → ts ≡ us
one-order-of-lines cs ts us f t a b = one-order ticket_of (lines_by_node cs) ts us (tickets-differ 0 cs f t) a.all a.order b.all b.order
