-- What follows from the definition of the step for a call that returns what the definition gives.
use Rattle.dist_core.proofs.Words.{◌≡◌, ℕ, true, ◌≢◌, IfOk, IsOk, IsTrue, slice_get, Some, None, Ok, Err, Option, Result, sym, refl, ap, ◌∙◌, subst, EndId}
use Rattle.dist_core.proofs.Words.{AreLegal, is_open, End, Why, GivesReply, IsStep, Refuses, reply_of, ClosesOnReply, end_of, loss_reply, closes, is_loss}
use Rattle.dist_core.proofs.Words.{NodeState, at_end, framed_from, opening_effect, sender_to, step, step_result, tick_effect, Effect, Event, Reply, StepError}
use Rattle.dist_core.proofs.{Closings.closes_on_reply, Rows.loses}
use Rattle.dist_core_ends.specs.declared.known.End.TheVariants as ends
use Rattle.dist_core.specs.Step.{effect_of}
use Rattle.dist_core.specs.declared.event.Event.TheVariants as event
use Rattle.dist_core.specs.declared.step_error.StepError.TheVariants as error

-- what a call of step returns
pub reported : (r : Result Reply StepError) (s : Result (Reply × NodeState) StepError) (old new : NodeState) → IsStep r s old new → GivesReply r s
reported (Ok r) s old new h = ap reply_of h
reported (Err e) s old new h = h.0

refused : (x e : StepError) (s : Result (Reply × NodeState) StepError) → Refuses x s → s ≡ Err e → ◌≡◌ {A = Result Reply StepError} (Err x) (Err e)
refused error.NoMemory e s h is = let P : Result (Reply × NodeState) StepError → Type 0 = λ q. IsOk q in let bad : P (Err e) = subst P is h in absurd cc
refused x e s h is = let same : ◌≡◌ {A = Result (Reply × NodeState) StepError} (Err x) (Err e) = sym h ∙ is in cc

refusal : (r : Result Reply StepError) (s : Result (Reply × NodeState) StepError) (e : StepError) → GivesReply r s → s ≡ Err e → r ≡ Err e
refusal (Ok r) s e h is = let same : Err e ≡ Ok r = sym (ap reply_of is) ∙ h in absurd cc
refusal (Err x) s e h is = refused x e s h is

accepted : (r : Result Reply StepError) (s : Result (Reply × NodeState) StepError) → GivesReply r s → IsOk s → r ≢ Err error.NoMemory → IsOk r
accepted (Ok r) s h ok apart = refl
accepted (Err x) s h ok apart = by x h apart
  where
    by : (x : StepError) → Refuses x s → ◌≢◌ {A = Result Reply StepError} (Err x) (Err error.NoMemory) → IsOk {T = Reply} {E = StepError} (Err x)
    by error.NoMemory h apart = absurd (apart refl)
    by x h apart = let Q : Result (Reply × NodeState) StepError → Type 0 = λ q. IsOk q in subst Q h ok

pub is-loss : (v : Event) (x : EndId) (w : Why) → v ≡ event.Lost x w → IsTrue (is_loss v)
is-loss v x w is = ap is_loss is

-- what holds of each event that reports a loss
pub loss-ready : (v : Event) (r : Result Reply StepError) → IsTrue (is_loss v)
    → ((x : EndId) (w : Why) → v ≡ event.Lost x w → r ≢ Err error.NoMemory) → r ≢ Err error.NoMemory
loss-ready (event.Lost x w) r h f = f x w refl
loss-ready v r h f = absurd cc

module _ (n : NodeState) where
  at-name : (id x : EndId) (o : Option End) (e : StepError) (f : End → Result Effect StepError) → Some id ≡ Some x → slice_get n.ends x.0 ≡ o → ((f : End → Result Effect StepError) → at_end o f ≡ Err e)
      → at_end (slice_get n.ends id.0) f ≡ Err e
  at-name id x o e f is at h = let same : id ≡ x = cc in ap (λ (y : EndId). at_end (slice_get n.ends y.0) f) same ∙ ap (λ q. at_end q f) at ∙ h f

  -- what an event that names an end that is not open leads to
  stopped : (v : Event) (fresh : ℕ) (x : EndId) (o : Option End) (e : StepError) → end_of v ≡ Some x → slice_get n.ends x.0 ≡ o → ((f : End → Result Effect StepError) → at_end o f ≡ Err e) → effect_of n v fresh ≡ Err e
  unfolding effect_of
  stopped (event.Dial p k) fresh x o e is at h = absurd cc
  stopped (event.Incoming link) fresh x o e is at h = absurd cc
  stopped (event.Opened id link) fresh x o e is at h = at-name id x o e (opening_effect n id) is at h
  stopped (event.Frame id body) fresh x o e is at h = at-name id x o e (λ e. framed_from n id fresh body e (sender_to e)) is at h
  stopped (event.Lost id w) fresh x o e is at h = at-name id x o e (λ e. Ok (closes id w)) is at h
  stopped (event.Tick id) fresh x o e is at h = at-name id x o e (tick_effect n id) is at h

  pub unknown : (v : Event) (fresh : ℕ) (r : Result Reply StepError) → GivesReply r (step n v fresh) → (x : EndId) → end_of v ≡ Some x → slice_get n.ends x.0 ≡ None → r ≡ Err error.NoSuchEnd
  unknown v fresh r h x is at = refusal r (step n v fresh) error.NoSuchEnd h (ap (step_result n v) (stopped v fresh x None error.NoSuchEnd is at (λ f. refl)))

  pub gone : (v : Event) (fresh : ℕ) (r : Result Reply StepError) → GivesReply r (step n v fresh) → (x : EndId) (w : Why) → end_of v ≡ Some x → slice_get n.ends x.0 ≡ Some (ends.Closed w) → r ≡ Err (error.Gone w)
  gone v fresh r h x w is at = refusal r (step n v fresh) (error.Gone w) h (ap (step_result n v) (stopped v fresh x (Some (ends.Closed w)) (error.Gone w) is at (λ f. refl)))

  open-end : (f : End → Result Effect StepError) (e : End) → is_open e ≡ true → at_end (Some e) f ≡ f e
  open-end f (ends.Closed w) h = absurd cc
  open-end f e h = refl

  loss-effect : (x : EndId) (w : Why) (fresh : ℕ) (e : End) → slice_get n.ends x.0 ≡ Some e → is_open e ≡ true → effect_of n (event.Lost x w) fresh ≡ Ok (closes x w)
  unfolding effect_of
  loss-effect x w fresh e at h = ap (λ o. at_end o (λ e. Ok (closes x w))) at ∙ open-end (λ e. Ok (closes x w)) e h

  pub lost : (v : Event) (fresh : ℕ) (r : Result Reply StepError) → GivesReply r (step n v fresh) → r ≢ Err error.NoMemory → (x : EndId) (w : Why) (e : End) → v ≡ event.Lost x w → slice_get n.ends x.0 ≡ Some e → is_open e ≡ true → IsOk r
  lost v fresh r h apart x w e is at o =
      let P : Event → Type 0 = λ v. IsOk (step n v fresh) in
      let Q : Result Effect StepError → Type 0 = λ q. IsOk (step_result n (event.Lost x w) q) in
      accepted r (step n v fresh) h (subst P (sym is) (subst Q (sym (loss-effect x w fresh e at o)) refl)) apart

  from-effect : (v : Event) (fresh : ℕ) (r : Reply) → reply_of (step n v fresh) ≡ Ok r → (f : Effect) × (effect_of n v fresh ≡ Ok f) × (f.reply ≡ r)
  from-effect v fresh r h = by (effect_of n v fresh) refl h
    where
      by : (q : Result Effect StepError) → effect_of n v fresh ≡ q → reply_of (step_result n v q) ≡ Ok r → (f : Effect) × (effect_of n v fresh ≡ Ok f) × (f.reply ≡ r)
      by (Ok f) e is = (f, e, let same : Ok f.reply ≡ Ok r = is in cc)
      by (Err x) e is = let same : Err x ≡ Ok r = is in absurd cc

  pub silent : (v : Event) (fresh : ℕ) (r : Result Reply StepError) → GivesReply r (step n v fresh) → (x : EndId) (w : Why) → v ≡ event.Lost x w → IfOk r (λ (r : Reply). r ≡ loss_reply x w)
  silent v fresh (Err e) h x w is = tt
  silent v fresh (Ok r) h x w is =
      let P : Event → Type 0 = λ v. reply_of (step n v fresh) ≡ Ok r in
      let g = from-effect (event.Lost x w) fresh r (subst P is h) in
      sym g.2 ∙ ap (λ (f : Effect). f.reply) (loses n x w fresh g.0 g.1).0

  pub replaced : AreLegal n.ends → (v : Event) (fresh : ℕ) (r : Result Reply StepError) → GivesReply r (step n v fresh) → IfOk r (λ (r : Reply). ClosesOnReply n v r)
  replaced legal v fresh (Err e) h = tt
  replaced legal v fresh (Ok r) h =
      let P : Reply → Type 0 = λ r. ClosesOnReply n v r in
      let g = from-effect v fresh r h in
      subst P g.2 (closes_on_reply n legal v fresh g.0 g.1)
