-- What the three passes know together.
use Rattle.std.proofs.Common.{◌≡◌, ◌≢◌, ℕ, Bool, true, false, ◌||◌, List, [], ◌∷◌, ◌++◌, ◌+◌, length, length-drop, arith, Option, Some, None, MatchOption}
use Rattle.std.proofs.Common.{IfSome, refl, sym, ap, ◌∙◌, subst}
use Rattle.dist_locked.specs.{Orders.Taken, Orders.AreInTurn, Passes.putting, Passes.working, Passes.taken_in, Rule.together, Rule.with_taken, Rule.Left}
use Rattle.dist_locked.specs.declared.rule.{DialOrder.DialOrder, View.View}
use Rattle.dist_locked.proofs.Turns.{turned}

-- all three lists are known
pub record KnowsAll (v : View) (put : List DialOrder) (one two : List Taken) : Type 0 where
  pub puts : v.puts ≡ true
  pub first : v.first ≡ true
  pub second : v.second ≡ true
  pub left : (items : List DialOrder) → Left v.put v.by_first v.by_second items → Left put one two items

gathered : (put : List DialOrder) (s z : Bool) (one two : List Taken) → s ≢ z → KnowsAll (together (together (putting put) (working s one)) (working z two)) put one two
gathered put true true one two n = absurd (n refl)
gathered put false false one two n = absurd (n refl)
gathered put false true one two n = record { puts = refl; first = refl; second = refl; left = λ items h. h }
gathered put true false one two n = record { puts = refl; first = refl; second = refl; left = λ items h. (h.0, turned put two one h.0 h.1, h.2) }

-- the view of a pass that took in those of both workers knows all three lists
pub knows_all : (p a b v w : View) (put : List DialOrder) (s z : Bool) (one two : List Taken) → p ≡ putting put → a ≡ working s one → b ≡ working z two → v ≡ together p a → w ≡ together v b → s ≢ z → KnowsAll w put one two
knows_all p a b v w put s z one two ep ea eb ev ew n =
    subst (λ (x : View). KnowsAll x put one two) (sym (ew ∙ (λ i. together ((ev ∙ (λ j. together (ep j) (ea j))) i) (eb i)))) (gathered put s z one two n)

may_take : (s : Bool) (taken : List Taken) → ((working s taken).first || (working s taken).second) ≡ true
may_take true taken = refl
may_take false taken = refl

-- a worker's pass may take
pub may_take_by : (v : View) (s : Bool) (taken : List Taken) → v ≡ working s taken → (v.first || v.second) ≡ true
may_take_by v s taken e = ap (λ (x : View). x.first || x.second) e ∙ may_take s taken

working-taken : (s : Bool) (taken : List Taken) (k : ℕ) (x : DialOrder) → with_taken (working s taken) k x ≡ working s (taken ++ (k, x) ∷ [])
working-taken true taken k x = refl
working-taken false taken k x = refl

-- a worker's pass knows one order more
pub took : (v w : View) (s : Bool) (taken : List Taken) (k : ℕ) (x : DialOrder) → v ≡ working s taken → w ≡ with_taken v k x → w ≡ working s (taken ++ (k, x) ∷ [])
took v w s taken k x e f = f ∙ ap (λ (u : View). with_taken u k x) e ∙ working-taken s taken k x

taken-working : (s : Bool) (taken : List Taken) → taken_in (working s taken) ≡ taken
taken-working true taken = refl
taken-working false taken = refl

-- what a take returns stands at the end of what the worker took
pub taken_by : (r : Option DialOrder) (v w : View) (s : Bool) (taken : List Taken) (P : Type 0) → v ≡ working s taken → MatchOption r P (λ x. (k : ℕ) × (w ≡ with_taken v k x))
    → IfSome r (λ x. (k : ℕ) × (taken_in w ≡ taken ++ (k, x) ∷ []))
taken_by None v w s taken P e m = tt
taken_by (Some x) v w s taken P e m = (m.0, ap taken_in (took v w s taken m.0 x e m.1) ∙ taken-working s (taken ++ (m.0, x) ∷ []))

-- the count of what is left
pub counts : (put : List DialOrder) (one two : List Taken) (items : List DialOrder) (n : ℕ) → length items ≡ n → Left put one two items → (t : ℕ) × AreInTurn put one two t × (n + t ≡ length put)
counts put one two items n len h = (h.0, h.1, omega (arith, len, ap length h.2, length-drop h.0 put, h.1.within))
