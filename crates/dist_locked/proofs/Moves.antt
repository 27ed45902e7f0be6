-- Each move of the queue keeps its rule.
use lib.ListN.{get_elem?}
use mathlib.Core.{Bool.or-false, Option.some, Option.some-injective, Option.some-ne-none}
use Rattle.std.proofs.Common.{◌≡◌, ℕ, zero, suc, ◌+◌, ◌≤◌, Bool, true, false, ◌||◌, List, [], ◌∷◌, ◌++◌, length, set, sym, refl, ap, ◌∙◌, arith, length-drop}
use Rattle.std.proofs.lemmas.{Bool.Decides.nat_tests, List.drop-append-le}
use Rattle.crossbeam_queue.specs.Fifo.{Pushes, Pops, Forks, Merges, Learns}
use Rattle.dist_locked.specs.{Orders.AreInTurn, declared.rule.DialOrder.DialOrder, declared.rule.View.View}
use Rattle.dist_locked.specs.Rule.{knows, nothing, without_first, only_first, without_second, only_second, together, with_put, with_taken, Owned, Kept}
use Rattle.dist_locked.proofs.Owners.{owned_same, owned_write, owned_more, owned_fork, owned_merge}
use Rattle.dist_locked.proofs.Turns.{put_more, take_first, take_second}

-- the only pass knows a list
alone : {X : Type 0} (has : View → Bool) (what : View → X) (v : View) → Owned has what (v ∷ []) (what v)
alone has what v = record { owner = 0; only = λ port u at _. one_view port u at } where
  one_view : (port : ℕ) (u : View) → get_elem? (v ∷ []) port ≡ some u → (port ≡ 0) × (what u ≡ what v)
  one_view zero u e = (refl, ap what (sym (some-injective v u e)))
  one_view (suc port) u e = absurd (some-ne-none u (sym e))

at_first : AreInTurn [] [] [] 0
at_first = record {
  within = omega arith;
  once = λ k. grind (arith, nat_tests);
  rises = ((λ i j d a b. absurd (omega arith)), (λ i j d a b. absurd (omega arith)));
  agrees = ((λ k d a. absurd (omega arith)), (λ k d a. absurd (omega arith)));
}

-- one pass knows all, and nothing was put
pub begins : Kept [] (knows true true true [] [] [] ∷ [])
begins = record {
  put = [];
  first = [];
  second = [];
  left = (0, at_first, refl);
  knows_put = alone (λ v. v.puts) (λ v. v.put) _;
  knows_first = alone (λ v. v.first) (λ v. v.by_first) _;
  knows_second = alone (λ v. v.second) (λ v. v.by_second) _;
}

-- the pass of the dispatcher puts an order
pub puts : (n port : ℕ) (v : View) (x : DialOrder) → v.puts ≡ true → Pushes Kept n port v x (λ w. w ≡ with_put v x)
puts n port v x may items views _ h at =
    let w = with_put v x in
    let mine = (h.knows_put.only port v at may).1 in
    let left = h.left in (
      w,
      record {
        put = h.put ++ x ∷ [];
        first = h.first;
        second = h.second;
        left = (left.0, put_more h.put x h.first h.second left.0 left.1, ap (λ l. l ++ x ∷ []) left.2 ∙ sym (drop-append-le left.0 h.put (x ∷ []) left.1.within));
        knows_put = owned_write h.knows_put port v w (h.put ++ x ∷ []) at may (ap (λ l. l ++ x ∷ []) mine);
        knows_first = owned_same h.knows_first port v w at refl refl;
        knows_second = owned_same h.knows_second port v w at refl refl;
      },
      refl,
    )

-- what is in the queue was put
pub put_shows : (port : ℕ) (v : View) → v.puts ≡ true → Learns Kept port v (λ items. length items ≤ length v.put)
put_shows port v may items views h at = omega (arith, ap length h.left.2, length-drop h.left.0 h.put, ap length (h.knows_put.only port v at may).1)

-- the pass of a worker takes an order
pub takes : (port : ℕ) (v : View) → (v.first || v.second) ≡ true → Pops Kept port v (λ x w. (k : ℕ) × (w ≡ with_taken v k x))
takes port v may x items views h at =
    let t = h.left.0 in
    elim (v.second) as (λ b. v.second ≡ b → (v.first || b) ≡ true → (w : View) × Kept items (set views port w) × ((k : ℕ) × (w ≡ with_taken v k x))) [
      | true ↦ λ is _.
          let w = knows v.puts v.first v.second v.put v.by_first (v.by_second ++ (t, x) ∷ []) in
          let r = take_second h.put h.first h.second t x items h.left.1 h.left.2 in (
            w,
            record {
              put = h.put;
              first = h.first;
              second = h.second ++ (t, x) ∷ [];
              left = (t + 1, r.0, r.1);
              knows_put = owned_same h.knows_put port v w at refl refl;
              knows_first = owned_same h.knows_first port v w at refl refl;
              knows_second = owned_write h.knows_second port v w _ at is (ap (λ l. l ++ (t, x) ∷ []) (h.knows_second.only port v at is).1);
            },
            (t, rw is refl),
          )
      | false ↦ λ is may'.
          let mine = sym (or-false v.first) ∙ may' in
          let w = knows v.puts v.first v.second v.put (v.by_first ++ (t, x) ∷ []) v.by_second in
          let r = take_first h.put h.first h.second t x items h.left.1 h.left.2 in (
            w,
            record {
              put = h.put;
              first = h.first ++ (t, x) ∷ [];
              second = h.second;
              left = (t + 1, r.0, r.1);
              knows_put = owned_same h.knows_put port v w at refl refl;
              knows_first = owned_write h.knows_first port v w _ at mine (ap (λ l. l ++ (t, x) ∷ []) (h.knows_first.only port v at mine).1);
              knows_second = owned_same h.knows_second port v w at refl refl;
            },
            (t, rw is refl),
          )
    ] refl may

-- other passes know the same three lists
shared : {items : List DialOrder} {views others : List View} (h : Kept items views) → Owned (λ v. v.puts) (λ v. v.put) others h.put
    → Owned (λ v. v.first) (λ v. v.by_first) others h.first → Owned (λ v. v.second) (λ v. v.by_second) others h.second → Kept items others
shared h p a b = record { put = h.put; first = h.first; second = h.second; left = h.left; knows_put = p; knows_first = a; knows_second = b }

-- the first worker's pass is cut off
pub cuts_first : (port : ℕ) (v : View) → v.first ≡ true → Forks Kept port v (without_first v) (only_first v)
cuts_first port v may items views h at =
    let l = without_first v in
    let r = only_first v in
    shared h (owned_more (owned_same h.knows_put port v l at refl refl) r refl) (owned_fork h.knows_first port v l r at may refl refl)
    (owned_more (owned_same h.knows_second port v l at refl refl) r refl)

-- the second worker's pass is cut off
pub cuts_second : (port : ℕ) (v : View) → v.second ≡ true → Forks Kept port v (without_second v) (only_second v)
cuts_second port v may items views h at =
    let l = without_second v in
    let r = only_second v in
    shared h (owned_more (owned_same h.knows_put port v l at refl refl) r refl) (owned_more (owned_same h.knows_first port v l at refl refl) r refl)
    (owned_fork h.knows_second port v l r at may refl refl)

-- two passes are put together
pub gathers : (port : ℕ) (v : View) (other : ℕ) (u : View) → Merges Kept port v other u (together v u) nothing
gathers port v other u items views h at two there =
    let both = together v u in
    shared h (owned_merge h.knows_put port v other u both nothing at two there refl refl refl)
    (owned_merge h.knows_first port v other u both nothing at two there refl refl refl) (owned_merge h.knows_second port v other u both nothing at two there refl refl refl)
