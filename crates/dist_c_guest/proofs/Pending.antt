-- The end that is given up first is open, so that it can always be lost.
use Rattle.dist_c_guest.proofs.Common.{◌≡◌, ℕ, suc, Bool, true, false, cond, ◌≢◌, List, [], ◌∷◌, IsOk, slice_get, Some, None, Ok, Err, Option, Result}
use Rattle.dist_c_guest.proofs.Common.{option_map, sym, refl, ap, ◌∙◌, subst, option_or, EndId, end_id, first_of, is_open, is_pending, is_unnamed}
use Rattle.dist_c_guest.proofs.Common.{oldest_pending, oldest_unnamed, End, Why, Refuses, NodeState, at_end, step, step_result, Event, StepError, IsCall}
use Rattle.dist_c_guest.proofs.Common.{MakesRoom, first_to_go, gives_way, room_for, Guest}
use Rattle.dist_c_guest.proofs.Frames.{Answer}
use Rattle.dist_core_ends.specs.declared.known.End.TheVariants as ends
use Rattle.dist_core_ends.specs.declared.why.Why.TheVariants as why
use Rattle.dist_core.specs.{Effects.closes, Step.effect_of}
use Rattle.dist_core.specs.declared.event.Event.TheVariants as event
use Rattle.dist_core.specs.declared.step_error.StepError.TheVariants as error

-- ---- the first of a kind

-- an open end has this number
record IsOpenAt (es : List End) (i : ℕ) : Type 0 where
  pub end_ : End
  pub there : slice_get es i ≡ Some end_
  pub opened : is_open end_ ≡ true

abbrev some : ℕ → Option ℕ
some i = Some i

abbrev some_id : EndId → Option EndId
some_id x = Some x

behind : (e : End) (es : List End) (o : Option ℕ) (i : ℕ) → option_map suc o ≡ some i → ((j : ℕ) → o ≡ Some j → IsOpenAt es j) → IsOpenAt (e ∷ es) i
behind e es (Some j) i is more =
    let p = more j refl in
    let here : suc j ≡ i = cc in
    subst (IsOpenAt (e ∷ es)) here (record { end_ = p.end_; there = p.there; opened = p.opened })
behind e es None i is more = absurd cc

numbered : (es : List End) (o : Option ℕ) (x : EndId) → option_map end_id o ≡ some_id x → ((i : ℕ) → o ≡ Some i → IsOpenAt es i) → IsOpenAt es x.0
numbered es (Some i) x is more =
    let here : end_id i ≡ x = cc in
    subst (λ (y : EndId). IsOpenAt es y.0) here (more i refl)
numbered es None x is more = absurd cc

-- a kind of which all ends are open
module _ (kind : End → Bool) (opens : (e : End) → kind e ≡ true → is_open e ≡ true) where
  by_head : (e : End) (es : List End) (b : Bool) (i : ℕ) → kind e ≡ b → cond b (some 0) (option_map suc (first_of kind es)) ≡ some i → ((j : ℕ) → first_of kind es ≡ Some j → IsOpenAt es j) → IsOpenAt (e ∷ es) i
  by_head e es true i of_kind is more =
      let here : 0 ≡ i = cc in
      subst (IsOpenAt (e ∷ es)) here (record { end_ = e; there = refl; opened = opens e of_kind })
  by_head e es false i of_kind is more = behind e es (first_of kind es) i is more

  first-open : (es : List End) (i : ℕ) → first_of kind es ≡ Some i → IsOpenAt es i
  first-open [] i is = absurd cc
  first-open (e ∷ es) i is = by_head e es (kind e) i refl is (first-open es)

  oldest-open : (es : List End) (x : EndId) → option_map end_id (first_of kind es) ≡ some_id x → IsOpenAt es x.0
  oldest-open es x is = numbered es (first_of kind es) x is (first-open es)

pending-open : (e : End) → is_pending e ≡ true → is_open e ≡ true
pending-open (ends.Closed w) h = absurd cc
pending-open e h = refl

unnamed-open : (e : End) → is_unnamed e ≡ true → is_open e ≡ true
unnamed-open ends.Unnamed h = refl
unnamed-open e h = absurd cc

either-open : (es : List End) (o : Option EndId) (x : EndId) → (o ≡ some_id x → IsOpenAt es x.0) → (oldest_pending es ≡ some_id x → IsOpenAt es x.0) → option_or o (oldest_pending es) ≡ some_id x → IsOpenAt es x.0
either-open es None x first second is = second is
either-open es (Some y) x first second is = first is

first-is-open : (es : List End) (x : EndId) → first_to_go es ≡ Some x → IsOpenAt es x.0
first-is-open es x is = either-open es (oldest_unnamed es) x (oldest-open is_unnamed unnamed-open es x) (oldest-open is_pending pending-open es x) is

-- ---- its loss

loses-end : (n : NodeState) (x : EndId) (w : Why) (e : End) → is_open e ≡ true → IsOk (step_result n (event.Lost x w) (at_end (Some e) (λ _. Ok (closes x w))))
loses-end n x w (ends.Closed v) h = absurd cc
loses-end n x w e h = refl

loses : (n : NodeState) (x : EndId) (w : Why) → IsOpenAt n.ends x.0 → IsOk (step n (event.Lost x w) 0)
unfolding effect_of
loses n x w h = subst (λ (o : Option End). IsOk (step_result n (event.Lost x w) (at_end o (λ _. Ok (closes x w))))) (sym h.there) (loses-end n x w h.end_ h.opened)

denied : (e : StepError) (s : Answer) → IsOk s → e ≢ error.NoMemory → Refuses e s → ⊥
denied e (Err x) o other h = absurd cc
denied error.NoMemory (Ok x) o other h = other refl
denied e (Ok x) o other h = absurd cc

abbrev refused : StepError → Result (Unit {0}) StepError
refused e = Err e

-- a call that reports a loss which the definition takes has made its step
made : (v : Event) (answer : Result (Unit {0}) StepError) (s : Answer) (old new : Guest) → IsOk s → answer ≢ refused error.NoMemory → IsCall v answer s old new → IsCall v (Ok tt) s old new
made v (Ok u) s old new o other h = h
made v (Err e) s old new o other h = absurd (denied e s o (λ (is : e ≡ error.NoMemory). other (ap refused is)) h.0)

-- ---- who makes room

first-of : (s : Answer) (o : Option EndId) (x : EndId) → gives_way s o ≡ some_id x → o ≡ Some x
first-of (Ok y) o x is = absurd cc
first-of (Err error.Full) o x is = is
first-of (Err e) o x is = absurd cc

-- a call that was made on a guest which reads alike
read-alike : (v : Event) (s : Answer) (old mid new : Guest) → mid.reading ≡ old.reading → IsCall v (Ok tt) s mid new → IsCall v (Ok tt) s old new
read-alike v s old mid new e (r, is, kept, heard, same) = (r, is, kept, heard, same ∙ e)

pub room-made : (v : Event) (x : EndId) (answer : Result (Unit {0}) StepError) (old mid new : Guest) → mid.node ≡ old.node → mid.reading ≡ old.reading → some_id x ≡ room_for v old.node → answer ≢ refused error.NoMemory → IsCall (event.Lost x why.GaveUp) answer (step mid.node (event.Lost x why.GaveUp) 0) mid new → MakesRoom (Some x) old new
room-made v x answer old mid new same reads is other h =
    let lost = event.Lost x why.GaveUp in
    let opened = first-is-open old.node.ends x (first-of (step old.node v 0) (first_to_go old.node.ends) x (sym is)) in
    let there = subst (λ (n : NodeState). IsOpenAt n.ends x.0) (sym same) opened in
    subst (λ (n : NodeState). IsCall lost (Ok tt) (step n lost 0) old new) same
    (read-alike lost (step mid.node lost 0) old mid new reads (made lost answer (step mid.node lost 0) mid new (loses mid.node x why.GaveUp there) other h))
