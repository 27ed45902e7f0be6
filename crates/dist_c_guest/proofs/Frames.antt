-- Whether a frame is refused, and why, does not depend on its bytes.
use Rattle.dist_c_guest.proofs.Common.{◌≡◌, ℕ, Bool, true, false, cond, List, IsOk, slice_get, Some, None, Ok, Err, Option, Result, refl, ap, subst, false≢true}
use Rattle.dist_c_guest.proofs.Common.{Name, Side, EndId, End, Refuses, NodeState, is_spent, at_end, framed_from, sender_to, step, step_result, Effect, Event}
use Rattle.dist_c_guest.proofs.Common.{Reply, StepError, answer_after, answer_to, node_letting, allowed_names, expansion, Guest}
use Rattle.dist_core_ends.specs.declared.known.End.TheVariants as ends
use Rattle.dist_core.specs.Step.{effect_of}
use Rattle.dist_core.specs.declared.event.Event.TheVariants as event
use Rattle.dist_core.specs.declared.step_error.StepError.TheVariants as error

-- how the definition answers an event
abbrev pub Answer : Type 0
Answer = Result (Reply × NodeState) StepError

-- both are made, or both are refused for one reason
abbrev Alike : Answer → Answer → Type 0
Alike (Ok x) t = IsOk t
Alike (Err e) t = t ≡ Err e

module _ (n m : NodeState) (v w : Event) where
  by_count : (b : Bool) (f g : Effect) → Alike (step_result n v (cond b (Err error.Spent) (Ok f))) (step_result m w (cond b (Err error.Spent) (Ok g)))
  by_count true f g = refl
  by_count false f g = refl

module _ (n : NodeState) (names : Option (List Name)) (id : EndId) (empty body : List ℕ) (fresh : ℕ) where
  -- the node whose names that may connect are others
  abbrev m : NodeState
  m = node_letting n names

  abbrev v : Event
  v = event.Frame id empty

  abbrev w : Event
  w = event.Frame id body

  by_side : (e : End) (s : Option Side) → Alike (step_result n v (framed_from n id 0 empty e s)) (step_result m w (framed_from m id fresh body e s))
  by_side e None = refl
  by_side e (Some side) = by_count n m v w (is_spent n) _ _

  by_end : (o : Option End) → Alike (step_result n v (at_end o (λ e. framed_from n id 0 empty e (sender_to e)))) (step_result m w (at_end o (λ e. framed_from m id fresh body e (sender_to e))))
  by_end None = refl
  by_end (Some (ends.Closed c)) = refl
  by_end (Some e) = by_side e (sender_to e)

  alike : Alike (step n v 0) (step m w fresh)
  unfolding effect_of
  alike = by_end (slice_get n.ends id.0)

at_want : (s t : Answer) → IsOk s → Alike s t → IsOk t
at_want (Ok x) t o a = a
at_want (Err x) t o a = absurd (false≢true o)

refuses : (e : StepError) (s t : Answer) → Refuses e s → Alike s t → Refuses e t
refuses error.NoMemory s t h a = at_want s t h a
refuses e s t h a = subst (λ (z : Answer). Alike z t) h a

-- the answer with the names given back is refused alike
ok-back : (n : NodeState) (s : Answer) → IsOk s → IsOk (answer_after n s)
ok-back n (Ok x) o = o
ok-back n (Err e) o = absurd (false≢true o)

pub refuses-back : (n : NodeState) (e : StepError) (s : Answer) → Refuses e s → Refuses e (answer_after n s)
refuses-back n error.NoMemory s h = ok-back n s h
refuses-back n e s h = ap (answer_after n) h

module _ (g : Guest) (id : EndId) (empty body : List ℕ) (fresh : ℕ) where
  abbrev came : List ℕ
  came = expansion g.reading.mandatory.0 body

  abbrev names : Option (List Name)
  names = allowed_names g.reading.forms came g.node.setup.allow

  like : Alike (step g.node (event.Frame id empty) 0) (step (node_letting g.node names) (event.Frame id came) fresh)
  like = alike g.node names id empty came fresh

  pub same_refusal : (x : StepError) → Refuses x (step g.node (event.Frame id empty) 0) → Refuses x (answer_to g id body fresh)
  same_refusal x h = refuses-back g.node x (step (node_letting g.node names) (event.Frame id came) fresh) (refuses x (step g.node (event.Frame id empty) 0) (step (node_letting g.node names) (event.Frame id came) fresh) h like)
