-- What is kept of latencies.
use Rattle.std.proofs.Common.{◌≡◌, ℕ, suc, ◌+◌, ◌-◌, ◌/◌, ◌<◌, ◌≤◌, ◌^◌, min, max, List, [], ◌∷◌, ◌++◌, length, get_or, drop, Some, slice_get, ◌⊎◌, inl}
use Rattle.std.proofs.Common.{inr, refl, sym, ap, subst, ◌∙◌, append_assoc, arith, length-append, length-drop}
use Rattle.std.proofs.lemmas.List.{append-nil, drop-drop, drop-append-le}
use Rattle.std.proofs.lemmas.{Bool.cases_lt, List.Sorted.IsNonDecreasingBy-from_sort, Option.slice_get_read}
use Rattle.std.specs.{List.AllByRecursion, List.Contains, List.Sorted.IsPermutation, List.Sorted.IsSorted, Ordering.nat_cmp}
use Rattle.dist_cluster.specs.Latency.{Tally, FitWord, IsGreatest, IsLeast, IsMedian, after_latencies, last_few, empty_tally, with_latency}

-- ---- how many

count-from : (xs : List ℕ) (k : Tally) → k.count ≤ 2 ^ 64 - 1 → (let u = after_latencies k xs in u.count) ≡ min (k.count + length xs) (2 ^ 64 - 1)
count-from [] k h = omega (arith, h)
count-from (x ∷ xs) k h =
    let e : (let u = after_latencies (with_latency k x) xs in u.count) ≡ min (min (k.count + 1) (2 ^ 64 - 1) + length xs) (2 ^ 64 - 1)
    = count-from xs (with_latency k x) (omega arith) in
    omega (arith, e, h)

pub count-all : (xs : List ℕ) → (let u = after_latencies empty_tally xs in u.count) ≡ min (length xs) (2 ^ 64 - 1)
count-all xs = count-from xs empty_tally (omega arith) ∙ ap (λ (n : ℕ). min n (2 ^ 64 - 1)) (omega arith)

-- ---- the least and the greatest

among-first : (x : ℕ) (xs : List ℕ) (y : ℕ) → y ≡ x → Contains (x ∷ xs) y
among-first x xs y e = (0, omega arith, sym e)

among-rest : (x : ℕ) (xs : List ℕ) (y : ℕ) → Contains xs y → Contains (x ∷ xs) y
among-rest x xs y h = (suc h.0, omega (arith, h.1), h.2)

min-one : (a b : ℕ) → (min a b ≡ a) ⊎ (min a b ≡ b)
min-one a b = elim (cases_lt a b) [ inl h ↦ inl (omega (arith, h)) | inr h ↦ inr (omega (arith, h)) ]

max-one : (a b : ℕ) → (max a b ≡ a) ⊎ (max a b ≡ b)
max-one a b = elim (cases_lt a b) [ inl h ↦ inr (omega (arith, h)) | inr h ↦ inl (omega (arith, h)) ]

least-falls : (xs : List ℕ) (k : Tally) → (let u = after_latencies k xs in u.least) ≤ k.least
least-falls [] k = omega arith
least-falls (x ∷ xs) k =
    let h : (let u = after_latencies (with_latency k x) xs in u.least) ≤ min k.least x = least-falls xs (with_latency k x) in
    omega (arith, h)

least-below : (xs : List ℕ) (k : Tally) → AllByRecursion (λ x. (let u = after_latencies k xs in u.least) ≤ x) xs
least-below [] k = tt
least-below (x ∷ xs) k =
    let h : (let u = after_latencies (with_latency k x) xs in u.least) ≤ min k.least x = least-falls xs (with_latency k x) in
    (omega (arith, h), least-below xs (with_latency k x))

least-among : (xs : List ℕ) (k : Tally) → ((let u = after_latencies k xs in u.least) ≡ k.least) ⊎ Contains xs (let u = after_latencies k xs in u.least)
least-among [] k = inl refl
least-among (x ∷ xs) k =
    let y : ℕ = (let u = after_latencies (with_latency k x) xs in u.least) in
    elim (least-among xs (with_latency k x)) [
      | inl e ↦ elim (min-one k.least x) [ inl a ↦ inl (e ∙ a) | inr b ↦ inr (among-first x xs y (e ∙ b)) ]
      | inr h ↦ inr (among-rest x xs y h)
    ]

pub least-all : (x : ℕ) (xs : List ℕ) → FitWord (x ∷ xs) → IsLeast (x ∷ xs) (let u = after_latencies empty_tally (x ∷ xs) in u.least)
least-all x xs fit =
    let first : x < 2 ^ 64 = fit.0 in
    let y : ℕ = (let u = after_latencies (with_latency empty_tally x) xs in u.least) in
    record {
      member = elim (least-among xs (with_latency empty_tally x)) [
        | inl e ↦ among-first x xs y (e ∙ omega (arith, first))
        | inr h ↦ among-rest x xs y h
      ];
      bound = least-below (x ∷ xs) empty_tally;
    }

worst-rises : (xs : List ℕ) (k : Tally) → k.worst ≤ (let u = after_latencies k xs in u.worst)
worst-rises [] k = omega arith
worst-rises (x ∷ xs) k =
    let h : max k.worst x ≤ (let u = after_latencies (with_latency k x) xs in u.worst) = worst-rises xs (with_latency k x) in
    omega (arith, h)

worst-above : (xs : List ℕ) (k : Tally) → AllByRecursion (λ x. x ≤ (let u = after_latencies k xs in u.worst)) xs
worst-above [] k = tt
worst-above (x ∷ xs) k =
    let h : max k.worst x ≤ (let u = after_latencies (with_latency k x) xs in u.worst) = worst-rises xs (with_latency k x) in
    (omega (arith, h), worst-above xs (with_latency k x))

worst-among : (xs : List ℕ) (k : Tally) → ((let u = after_latencies k xs in u.worst) ≡ k.worst) ⊎ Contains xs (let u = after_latencies k xs in u.worst)
worst-among [] k = inl refl
worst-among (x ∷ xs) k =
    let y : ℕ = (let u = after_latencies (with_latency k x) xs in u.worst) in
    elim (worst-among xs (with_latency k x)) [
      | inl e ↦ elim (max-one k.worst x) [ inl a ↦ inl (e ∙ a) | inr b ↦ inr (among-first x xs y (e ∙ b)) ]
      | inr h ↦ inr (among-rest x xs y h)
    ]

pub worst-all : (x : ℕ) (xs : List ℕ) → IsGreatest (x ∷ xs) (let u = after_latencies empty_tally (x ∷ xs) in u.worst)
worst-all x xs =
    let y : ℕ = (let u = after_latencies (with_latency empty_tally x) xs in u.worst) in
    record {
      member = elim (worst-among xs (with_latency empty_tally x)) [
        | inl e ↦ among-first x xs y (e ∙ omega arith)
        | inr h ↦ among-rest x xs y h
      ];
      bound = worst-above (x ∷ xs) empty_tally;
    }

-- ---- the last few latencies

-- the last few of some last few and one more are the last few of all and one more
few-more : (n : ℕ) (past : List ℕ) (x : ℕ) → last_few n (last_few n past ++ x ∷ []) ≡ last_few n (past ++ x ∷ [])
few-more n past x =
    let k : ℕ = length past - n in
    let joined : drop k past ++ x ∷ [] ≡ drop k (past ++ x ∷ []) = sym (drop-append-le k past (x ∷ []) (omega arith)) in
    let inner : length (drop k past ++ x ∷ []) ≡ length past - k + 1 = omega (arith, length-append (drop k past) (x ∷ []), length-drop k past) in
    let whole : length (past ++ x ∷ []) ≡ length past + 1 = omega (arith, length-append past (x ∷ [])) in
    ap (λ (ys : List ℕ). drop (length (drop k past ++ x ∷ []) - n) ys) joined
    ∙ drop-drop (length (drop k past ++ x ∷ []) - n) k (past ++ x ∷ [])
    ∙ ap (λ (m : ℕ). drop m (past ++ x ∷ [])) (omega (arith, inner, whole))

recent-from : (xs : List ℕ) (k : Tally) (past : List ℕ) → k.recent ≡ last_few 1024 past
    → (let u = after_latencies k xs in u.recent) ≡ last_few 1024 (past ++ xs)
recent-from [] k past h = h ∙ ap (λ (ys : List ℕ). last_few 1024 ys) (sym (append-nil past))
recent-from (x ∷ xs) k past h =
    recent-from xs (with_latency k x) (past ++ x ∷ []) (ap (λ (ys : List ℕ). last_few 1024 (ys ++ x ∷ [])) h ∙ few-more 1024 past x)
    ∙ ap (λ (ys : List ℕ). last_few 1024 ys) (append_assoc past (x ∷ []) xs)

pub recent-all : (xs : List ℕ) → (let u = after_latencies empty_tally xs in u.recent) ≡ last_few 1024 xs
recent-all xs = recent-from xs empty_tally [] refl

-- ---- the median

middle : (n : ℕ) → 0 < n → (n - 1) / 2 < n
middle n h = omega arith

pub median-of : (xs sorted : List ℕ) (n median : ℕ) → n ≡ length sorted → 0 < n → IsPermutation xs sorted → IsSorted nat_cmp sorted
    → median ≡ get_or sorted ((n - 1) / 2) median → IsMedian xs median
median-of xs sorted n median len some moved rises read =
    let P : ℕ → Type 0 = λ m. slice_get sorted ((m - 1) / 2) ≡ Some median in
    (sorted, moved, IsNonDecreasingBy-from_sort (λ x. x) sorted rises, subst P len (slice_get_read sorted n ((n - 1) / 2) median len (middle n some) read))
