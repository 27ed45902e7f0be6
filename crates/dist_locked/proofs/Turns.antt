-- Each move keeps the rule.
use Rattle.std.proofs.Common.{◌≡◌, ℕ, zero, suc, ◌+◌, ◌<◌, ◌≤◌, ◌==◌, if◌then◌else◌, cond, nat_lt, List, [], ◌∷◌, ◌++◌, length, drop, get_or, Some, slice_get}
use Rattle.std.proofs.Common.{refl, ap, ◌∙◌, arith, length-append, eq-eqb}
use Rattle.std.proofs.lemmas.{Bool.Decides.nat_tests, List.Elements.All-push, List.Quantifiers.all_pairs_push, List.Sums.sum_by_push, List.Sums.sum_by-cons}
use Rattle.dist_locked.specs.{Orders.Taken, Orders.times, Orders.Agrees, Orders.AreInTurn, declared.rule.DialOrder.DialOrder}

-- what was put stays where it is
get_more : (put more : List DialOrder) (k : ℕ) (x : DialOrder) → slice_get put k ≡ Some x → slice_get (put ++ more) k ≡ Some x
get_more [] more k x e = cc
get_more (y ∷ ys) more zero x e = e
get_more (y ∷ ys) more (suc k) x e = get_more ys more k x e

-- the first of what is left stands at its place
get_next : (put : List DialOrder) (t : ℕ) (x : DialOrder) (rest : List DialOrder) → x ∷ rest ≡ drop t put → (slice_get put t ≡ Some x) × (rest ≡ drop (suc t) put) × (t + 1 ≤ length put)
get_next [] zero x rest e = cc
get_next [] (suc t) x rest e = cc
get_next (y ∷ ys) zero x rest e = (cc, (cc), omega arith)
get_next (y ∷ ys) (suc t) x rest e = let r = get_next ys t x rest e in (r.0, r.1, omega (arith, r.2))

agrees_more : (put : List DialOrder) (x : DialOrder) (taken : List Taken) → Agrees put taken → Agrees (put ++ x ∷ []) taken
agrees_more put x taken h k d lt = get_more put (x ∷ []) (get_or taken k d).0 (get_or taken k d).1 (h k d lt)

-- one more order is put
pub put_more : (put : List DialOrder) (x : DialOrder) (a b : List Taken) (t : ℕ) → AreInTurn put a b t → AreInTurn (put ++ x ∷ []) a b t
put_more put x a b t h = record {
  within = omega (arith, h.within, length-append put (x ∷ []));
  once = h.once;
  rises = h.rises;
  agrees = (agrees_more put x a h.agrees.0, agrees_more put x b h.agrees.1);
}

-- 1 where the order was taken at this place
abbrev one_at : ℕ → Taken → ℕ
one_at k p = cond (p.0 == k) 1 0

-- a place that was taken was taken once or more
counted : (taken : List Taken) (k : ℕ) (d : Taken) → k < length taken → 1 ≤ times (get_or taken k d).0 taken
counted [] k d lt = absurd (omega arith)
counted (x ∷ xs) zero d lt = let one : one_at x.0 x ≡ 1 = ap (λ b. cond b 1 0) (eq-eqb x.0 x.0 refl) in omega (arith, one, sum_by-cons (one_at x.0) x xs)
counted (x ∷ xs) (suc k) d lt = omega (arith, counted xs k d (omega arith), sum_by-cons (one_at (get_or xs k d).0) x xs)

under : (k t n : ℕ) → 1 ≤ n → n ≤ (if nat_lt k t then 1 else 0) → k < t
under k t n a b = grind (arith, nat_tests)

below : (put : List DialOrder) (a b : List Taken) (t : ℕ) → AreInTurn put a b t → (k : ℕ) (d : Taken) → k < length a → (get_or a k d).0 < t
below put a b t h k d lt = let p = (get_or a k d).0 in let c = counted a k d lt in under p t (times p a) c (omega (arith, h.once p))

step_once : (t k : ℕ) → (if nat_lt k t then 1 else 0) + cond (t == k) 1 0 ≡ (if nat_lt k (t + 1) then 1 else 0)
step_once t k = grind (arith, nat_tests)

-- the first worker takes the next order
pub take_first : (put : List DialOrder) (a b : List Taken) (t : ℕ) (x : DialOrder) (rest : List DialOrder) → AreInTurn put a b t → x ∷ rest ≡ drop t put → AreInTurn put (a ++ (t, x) ∷ []) b (t + 1) × (rest ≡ drop (t + 1) put)
take_first put a b t x rest h e =
    let next = get_next put t x rest e in
    let more : suc t ≡ t + 1 = omega arith in (
      record {
        within = next.2;
        once = λ k. omega (arith, h.once k, sum_by_push (one_at k) a (t, x), step_once t k);
        rises = (all_pairs_push (λ (p : Taken) (q : Taken). p.0 < q.0) a (t, x) h.rises.0 (below put a b t h), h.rises.1);
        agrees = (All-push (λ (p : Taken). slice_get put p.0 ≡ Some p.1) a (t, x) h.agrees.0 next.0, h.agrees.1);
      },
      next.1 ∙ ap (λ n. drop n put) more,
    )

-- the two workers may change places
pub turned : (put : List DialOrder) (a b : List Taken) (t : ℕ) → AreInTurn put a b t → AreInTurn put b a t
turned put a b t h = record {
  within = h.within;
  once = λ k. omega (arith, h.once k);
  rises = (h.rises.1, h.rises.0);
  agrees = (h.agrees.1, h.agrees.0);
}

-- the second worker takes the next order
pub take_second : (put : List DialOrder) (a b : List Taken) (t : ℕ) (x : DialOrder) (rest : List DialOrder) → AreInTurn put a b t → x ∷ rest ≡ drop t put → AreInTurn put a (b ++ (t, x) ∷ []) (t + 1) × (rest ≡ drop (t + 1) put)
take_second put a b t x rest h e = let r = take_first put b a t x rest (turned put a b t h) e in (turned put (b ++ (t, x) ∷ []) a (t + 1) r.0, r.1)
