-- A frame is held just where the reply that was foreseen closes an end that is up, and a guarded call is what a guard is told.
use Rattle.dist_c_guest.proofs.Common.{◌≡◌, ℕ, Bool, true, false, ◌≢◌, List, [], ◌∷◌, is_some, IsErrAnd, if◌then◌else◌, Some, None, Ok, Err, Option, Result}
use Rattle.dist_c_guest.proofs.Common.{sym, refl, ap, ◌∙◌, subst, Name, EndId, Steps, run_acts, reply_of, NodeState, node_after, step, Event, Reply, StepError}
use Rattle.dist_c_guest.proofs.Common.{IsCall, answer_after, answer_to, frame_to, node_letting, allowed_names, expansion, Guest}
use Rattle.dist_c_guest.proofs.{Frames.Answer, GivenBack.node-back}
use Rattle.dist_core.specs.declared.event.Event.TheVariants as event
use Rattle.dist_core.specs.declared.step_error.StepError.TheVariants as error
use Rattle.dist_c_guest.specs.Guard.{IsGuarded, acts_asked, closes_up_end, held_reply, run_guard, told_of_frame}

abbrev held_if : NodeState → Reply → Option Reply
held_if n q = if closes_up_end n q.closed then Some q else None

held-as : (n : NodeState) (s : Result (Reply × NodeState) StepError) (r : Reply) → reply_of s ≡ Ok r → held_reply n s ≡ held_if n r
held-as n (Err e) r is = absurd cc
held-as n (Ok x) r is = let one : x.0 ≡ r = cc in ap (held_if n) one

pub held_some : (n : NodeState) (s : Result (Reply × NodeState) StepError) (r : Reply) → reply_of s ≡ Ok r → closes_up_end n r.closed ≡ true → held_reply n s ≡ Some r
held_some n s r is up = held-as n s r is ∙ ap (λ (b : Bool). if b then Some r else None) up

held_none : (n : NodeState) (s : Result (Reply × NodeState) StepError) (r : Reply) → reply_of s ≡ Ok r → closes_up_end n r.closed ≡ false → held_reply n s ≡ None
held_none n s r is up = held-as n s r is ∙ ap (λ (b : Bool). if b then Some r else None) up

-- after a call that foresees the step and changes nothing, the step was made or refused
module _ (id : EndId) (body : List ℕ) (fresh : ℕ) (old mid new : Guest) where
  pub taken : (r : Reply) (held : Bool) → mid ≡ old → reply_of (answer_to old id body fresh) ≡ Ok r → held ≡ closes_up_end mid.node r.closed → held ≡ false
      → IsCall (frame_to mid id body) (Ok tt) (answer_to mid id body fresh) mid new → IsGuarded (Ok None) id body fresh old new
  taken r held same is up free call = (
    held_none old.node _ r is (ap (λ (g : Guest). closes_up_end g.node r.closed) (sym same) ∙ sym up ∙ free),
    subst (λ (g : Guest). IsCall (frame_to g id body) (Ok tt) (answer_to g id body fresh) g new) same call,
  )

  pub not_taken : (result : Result (Option Reply) StepError) (e : StepError) → IsErrAnd result (λ y. y ≡ e) → mid ≡ old
      → IsCall (frame_to mid id body) (Err e) (answer_to mid id body fresh) mid new → IsGuarded result id body fresh old new
  not_taken (Err y) e is same call =
      subst (λ (x : StepError). IsGuarded (Err x) id body fresh old new) (sym is)
      (subst (λ (g : Guest). IsCall (frame_to g id body) (Err e) (answer_to g id body fresh) g new) same call)
  not_taken (Ok x) e is same call = absurd is

-- ---- a guarded call, and what a guard is told

module _ (n : NodeState) (names : Option (List Name)) (v : Event) (fresh : ℕ) where
  abbrev asked : NodeState
  asked = node_letting n names

  abbrev restored : NodeState → NodeState
  restored m = node_letting m n.setup.allow

  abbrev answer : Answer
  answer = step asked v fresh

  -- giving the names back holds nothing else
  same-held : (s : Answer) → held_reply asked s ≡ held_reply n (answer_after n s)
  same-held (Ok x) = refl
  same-held (Err e) = refl

  by-rule : (o : Option Reply) → held_reply n (answer_after n answer) ≡ o → restored (run_acts (acts_asked asked (Steps v fresh)) asked) ≡ (if is_some o then n else node_after n (answer_after n answer))
  by-rule o is = ap (λ (q : Option Reply). restored (run_acts (if is_some q then [] else Steps v fresh ∷ []) asked)) (same-held answer ∙ is) ∙ by (is_some o)
    where
      by : (b : Bool) → restored (run_acts (if b then [] else Steps v fresh ∷ []) asked) ≡ (if b then n else node_after n (answer_after n answer))
      by true = refl
      by false = node-back n names answer

  refused : (e : StepError) → answer_after n answer ≡ Err e → restored (run_acts (acts_asked asked (Steps v fresh)) asked) ≡ n
  refused e is = by-rule None (ap (held_reply n) is) ∙ ap (node_after n) is

module _ (id : EndId) (body : List ℕ) (fresh : ℕ) (old new : Guest) (shown : ℕ → Bool) where
  abbrev came : List ℕ
  came = expansion old.reading.mandatory.0 body

  abbrev names : Option (List Name)
  names = allowed_names old.reading.forms came old.node.setup.allow

  abbrev told : NodeState
  told = let k = run_guard (told_of_frame old id body fresh) (record { node = old.node; shown = shown }) in k.node

  abbrev v : Event
  v = event.Frame id came

  abbrev node_of : Guest → NodeState
  node_of g = g.node

  nothing-done : (e : StepError) → answer_to old id body fresh ≡ Err e → new ≡ old → told ≡ new.node
  nothing-done e is same = refused old.node names v fresh e is ∙ ap node_of (sym same)

  pub frame-told : (result : Result (Option Reply) StepError) → IsGuarded result id body fresh old new → result ≢ Err error.NoMemory → told ≡ new.node
  frame-told (Ok None) (free, (r, is, kept, heard, same)) m = by-rule old.node names v fresh None free ∙ ap (node_after old.node) is
  frame-told (Ok (Some r)) (held, same) m = by-rule old.node names v fresh (Some r) held ∙ ap node_of (sym same)
  frame-told (Err error.NoMemory) h m = absurd (m refl)
  frame-told (Err e) (is, same) m = nothing-done e is same
