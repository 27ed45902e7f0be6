-- A step that is kept, or answered, by what its event does.
use Rattle.dist_core.proofs.Words.{◌≡◌, ℕ, ◌+◌, IsOk, Ok, Err, Result, sym, refl, ap, ◌∙◌, subst, EndId, Why, IsStep, Refuses, reply_of, loss_reply, KeepsDone}
use Rattle.dist_core.proofs.Words.{KeepsStep, NodeState, ends_after, cost_of, step_result, Effect, Event, Reply, StepError}
use Rattle.dist_core.specs.declared.event.Event.TheVariants as event

-- where the reply is kept, it is returned
pub returned : (q : Result Reply StepError) (s : Result (Reply × NodeState) StepError) (old new : NodeState) → KeepsStep (λ r k. k ≡ r) q s old new → IsStep q s old new
returned (Ok k) s old new h = subst (λ (r : Reply). s ≡ Ok (r, new)) (sym h.1) h.2
returned (Err e) s old new h = h

-- the reply of a step is the reply of its effect
pub reported-so : (n : NodeState) (v : Event) (s : Result Effect StepError) (f : Effect) (r : Reply) → s ≡ Ok f → r ≡ f.reply → reply_of (step_result n v s) ≡ Ok r
reported-so n v s f r is same = ap (λ (s : Result Effect StepError). reply_of (step_result n v s)) is ∙ ap (λ (r : Reply). Ok r) (sym same)

-- a step that has a reply is made
pub given : (s : Result (Reply × NodeState) StepError) (r : Reply) → reply_of s ≡ Ok r → IsOk s
given (Ok x) r h = refl
given (Err e) r h = absurd cc

-- an effect that was done and kept is the step
pub kept-done : {K : Type 0} (keeps : Reply → K → Type 0) (n : NodeState) (v : Event) (s : Result Effect StepError) (f : Effect) → s ≡ Ok f → cost_of v ≡ 1 → (r : Result K StepError) (new : NodeState) → KeepsDone keeps f r n new → KeepsStep keeps r (step_result n v s) n new
kept-done keeps n v s f is one (Ok k) new h =
    (f.reply, h.0, ap (step_result n v) is ∙ (λ j. Ok (f.reply, (ap (λ (k : ℕ). record { setup = n.setup; steps = n.steps + k; ends = ends_after n.ends f }) one ∙ sym h.1) j)))
kept-done keeps n v s f is one (Err e) new h =
    let made : IsOk (step_result n v s) = subst (λ (q : Result Effect StepError). IsOk (step_result n v q)) (sym is) refl in
    (subst (λ (x : StepError). Refuses x (step_result n v s)) (sym h.0) made, h.1)

-- what holds of the reply to a loss holds by whatever names the loss is written
pub same-loss : (P : Reply → Type 0) (v : Event) (id x : EndId) (why w : Why) → v ≡ event.Lost id why → v ≡ event.Lost x w → P (loss_reply x w) → P (loss_reply id why)
same-loss P v id x why w a b =
    let same : ◌≡◌ {A = Event} (event.Lost x w) (event.Lost id why) = sym b ∙ a in
    let ends : x ≡ id = cc in
    let whys : w ≡ why = cc in
    subst P (λ i. loss_reply (ends i) (whys i))
