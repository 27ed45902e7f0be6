-- Peers that neither the file names nor a node dialled.
use Rattle.std.proofs.Common.{◌≡◌, ◌∙◌, ◌↔◌, IsTrue, ℕ, ◌≤◌, ◌-◌, length, take, drop, take_all, zero, suc, ◌+◌, ◌⊎◌, inl, inr, Bool, true, false, ◌&&◌, List, [], ◌∷◌, slice_get, All, count_by, cond, get_or, refl, sym, ap, subst, arith}
use Rattle.std.proofs.lemmas.List.Elements.{recursion_from_All}
use Rattle.std.proofs.lemmas.List.Sums.{sum_by-cons}
use Rattle.std.specs.List.{AllByRecursion}
use Rattle.dist_names.specs.Order.{Name, same_name}
use Rattle.dist_names.proofs.Orders.{one_lem}
use Rattle.dist_core.specs.declared.event.Event.{Event}
use Rattle.dist_core.specs.declared.event.Event.TheVariants as event
use Rattle.dist_locked_book.specs.declared.{line.Line.Line, closing.Closed.Closed}
use Rattle.dist_run_plan.specs.declared.plan.DialPlan.{DialPlan}
use Rattle.dist_run_hosts.specs.declared.order_fault.OrderFault.{OrderFault}
use Rattle.dist_run_hosts.specs.Orders.{is_dial_of, is_order, is_such_order, is_fault_of, count_dials, name_of, lines_in, IsObeyed, PeerIsObeyed, OrderIsObeyed, LineIsObeyed}

-- none of these passes a test
abbrev HasNone : {X : Type 0} → (X → Bool) → List X → Type 0
HasNone p xs = AllByRecursion (λ x. p x ≡ false) xs

-- either none passes a test, or what follows from one that does
either-none : {X : Type 0} (p : X → Bool) (P : X → Type 0) (Q : Type 0) → ((x : X) → p x ≡ true → P x → Q) → (xs : List X) → AllByRecursion P xs → HasNone p xs ⊎ Q
either-none p P Q f [] h = inl tt
either-none p P Q f (x ∷ xs) h = elim (p x) as (λ b. p x ≡ b → HasNone p (x ∷ xs) ⊎ Q) [
  | true ↦ λ e. inr (f x e h.0)
  | false ↦ λ e. elim (either-none p P Q f xs h.1) [
    | inl none ↦ inl (e, none)
    | inr q ↦ inr q
  ]
] refl

-- none that passes is counted
count-none : {X : Type 0} (p : X → Bool) (xs : List X) → HasNone p xs → count_by p xs ≡ 0
count-none p [] none = refl
count-none p (x ∷ xs) none =
    let one : ℕ = 1 in
    let nought : ℕ = 0 in
    let first : cond (p x) one nought ≡ nought = ap (λ b. cond b one nought) none.0 in
    omega (arith, first, count-none p xs none.1, sum_by-cons (λ y. cond (p y) 1 0) x xs)

and-false : (a : Bool) → (a && false) ≡ false
and-false true = refl
and-false false = refl

module _ (from to : Name) where
  no-order : (orders : List DialPlan) → HasNone (λ (o : DialPlan). same_name o.to to) orders → HasNone (is_order from to) orders
  no-order [] none = tt
  no-order (o ∷ orders) none = (ap (λ b. same_name o.from from && b) none.0 ∙ and-false (same_name o.from from), no-order orders none.1)

  no-such : (orders : List DialPlan) → HasNone (is_order from to) orders → (k : ℕ) → is_such_order from to (slice_get orders k) ≡ false
  no-such [] none k = refl
  no-such (o ∷ orders) none zero = none.0
  no-such (o ∷ orders) none (suc k) = no-such orders none.1 k

  no-fault : (orders : List DialPlan) → HasNone (is_order from to) orders → (faults : List OrderFault) → HasNone (is_fault_of orders from to) faults
  no-fault orders none [] = tt
  no-fault orders none (f ∷ faults) = (no-such orders none f.number, no-fault orders none faults)

module _ (orders : List DialPlan) (faults : List OrderFault) (closed : Closed) where
  -- a dial of this peer is of its own peer
  peer-obeyed : (to : Name) (e : Event) → is_dial_of to e ≡ true → PeerIsObeyed orders faults closed e → IsObeyed orders faults closed to
  peer-obeyed to (event.Dial p o) e h = subst (IsObeyed orders faults closed) (one_lem p to e) h
  peer-obeyed to other e h = absurd cc

  -- a peer that no order names and no step dials
  unnamed : (to : Name) → HasNone (λ (o : DialPlan). same_name o.to to) orders → HasNone (λ (l : Line). is_dial_of to l.event) (lines_in closed) → IsObeyed orders faults closed to
  unnamed to none undialled =
      let from = name_of closed in
      let unordered = no-order from to orders none in
      let dials : count_dials to (lines_in closed) ≡ 0 = count-none (λ (l : Line). is_dial_of to l.event) (lines_in closed) undialled in
      let reported : count_by (is_fault_of orders from to) faults ≡ 0 = count-none (is_fault_of orders from to) faults (no-fault from to orders unordered faults) in
      record { count = (λ i. dials i + reported i) ∙ sym (count-none (is_order from to) orders unordered) }

  -- where the peers of all orders and of all dials are obeyed, each peer is
  pub all-peers : AllByRecursion (OrderIsObeyed orders faults closed) orders → All (LineIsObeyed orders faults closed) (lines_in closed) → (to : Name) → IsObeyed orders faults closed to
  all-peers named dialled to =
      let Q = IsObeyed orders faults closed to in
      elim (either-none (λ (o : DialPlan). same_name o.to to) (OrderIsObeyed orders faults closed) Q
      (λ o e h. subst (IsObeyed orders faults closed) (one_lem o.to to e) h.peer) orders named) [
        | inr q ↦ q
        | inl none ↦ elim (either-none (λ (l : Line). is_dial_of to l.event) (LineIsObeyed orders faults closed) Q
            (λ l e h. peer-obeyed to l.event e h.peer) (lines_in closed) (recursion_from_All _ (lines_in closed) dialled)) [
              | inr q ↦ q
              | inl undialled ↦ unnamed to none undialled
            ]
      ]

  -- and the other way
  peer-of : ((to : Name) → IsObeyed orders faults closed to) → (e : Event) → PeerIsObeyed orders faults closed e
  peer-of h (event.Dial p o) = h p
  peer-of h other = tt

  pub each-order : ((to : Name) → IsObeyed orders faults closed to) → (some : List DialPlan) → AllByRecursion (OrderIsObeyed orders faults closed) some
  each-order h [] = tt
  each-order h (o ∷ some) = (record { peer = h o.to }, each-order h some)

  pub each-line : ((to : Name) → IsObeyed orders faults closed to) → (lines : List Line) → All (LineIsObeyed orders faults closed) lines
  each-line h lines = λ k d few. record { peer = peer-of h (let l = get_or lines k d in l.event) }

  -- what was counted decides
  pub counts-decide : (to from : Name) (lines : List Line) (ordered reported dialled : ℕ) (answer : Bool) → from ≡ name_of closed → lines ≡ lines_in closed → ordered ≡ count_by (is_order from to) orders → reported ≡ count_by (is_fault_of orders from to) faults → dialled ≡ count_dials to lines → (IsTrue answer ↔ (dialled + reported ≡ ordered)) → IsTrue answer ↔ IsObeyed orders faults closed to
  counts-decide to from lines ordered reported dialled answer name history o r d says =
      let dials : dialled ≡ count_dials to (lines_in closed) = d ∙ ap (count_dials to) history in
      let answered : reported ≡ count_by (is_fault_of orders (name_of closed) to) faults = r ∙ ap (λ n. count_by (is_fault_of orders n to) faults) name in
      let wanted : ordered ≡ count_by (is_order (name_of closed) to) orders = o ∙ ap (λ n. count_by (is_order n to) orders) name in
      (λ t. record { count = (λ i. sym dials i + sym answered i) ∙ (says.0 t ∙ wanted) }, λ h. says.1 ((λ i. dials i + answered i) ∙ (h.count ∙ sym wanted)))

-- the first is so, and the others decide
pub others-decide : {X : Type 0} (P : X → Type 0) (xs : List X) (x : X) (a b : Bool) → 1 ≤ length xs → x ≡ get_or xs 0 x → (IsTrue a ↔ P x) → (IsTrue b ↔ AllByRecursion P (take (length xs - 1) (drop 1 xs))) → a ≡ true → IsTrue b ↔ AllByRecursion P xs
others-decide P [] x a b few is f g t = absurd (omega (arith, few))
others-decide P (y ∷ ys) x a b few is f g t =
    let rest : take (length (y ∷ ys) - 1) ys ≡ ys = take_all (length (y ∷ ys) - 1) ys (omega arith) in
    (λ h. (subst P is (f.0 t), subst (AllByRecursion P) rest (g.0 h)), λ h. g.1 (subst (AllByRecursion P) (sym rest) h.1))

-- the first is not so
pub first-decides : {X : Type 0} (P : X → Type 0) (xs : List X) (x : X) (a : Bool) → 1 ≤ length xs → x ≡ get_or xs 0 x → (IsTrue a ↔ P x) → a ≡ false → IsTrue a ↔ AllByRecursion P xs
first-decides P [] x a few is f n = absurd (omega (arith, few))
first-decides P (y ∷ ys) x a few is f n = (λ t. absurd (let e : true ≡ false = sym t ∙ n in cc), λ h. f.1 (subst P (sym is) h.0))
