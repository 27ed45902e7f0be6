-- What a call returns for a loss.
use Rattle.dist_core.proofs.Words.{◌≡◌, true, List, IfOk, IfErr, IsOk, IsTrue, slice_get, Some, None, Ok, Err, Option, Result, sym, refl, ap, ◌∙◌, subst, EndId}
use Rattle.dist_core.proofs.Words.{is_open, End, Why, end_of, loss_reply, IsGone, IsSilent, is_loss, at_end, Effect, Event, Reply, StepError}
use Rattle.dist_core_ends.specs.declared.known.End.TheVariants as ends
use Rattle.dist_core.specs.declared.event.Event.TheVariants as event
use Rattle.dist_core.specs.declared.step_error.StepError.TheVariants as error

abbrev bad : StepError → Result Reply StepError
bad e = Err e

bad_is : (e f : StepError) → bad e ≡ bad f → f ≡ e
bad_is e f h = cc

gone_in : (o : Option End) (e : StepError) → (o ≡ None → bad e ≡ bad error.NoSuchEnd) → ((w : Why) → o ≡ Some (ends.Closed w) → bad e ≡ bad (error.Gone w)) → ((d : End) → o ≡ Some d → is_open d ≡ true → ⊥) → IsGone e
gone_in None e unknown gone lost = subst IsGone (bad_is e error.NoSuchEnd (unknown refl)) tt
gone_in (Some (ends.Closed w)) e unknown gone lost = subst IsGone (bad_is e (error.Gone w) (gone w refl)) tt
gone_in (Some d) e unknown gone lost = absurd (lost d refl refl)

not_ok : (e : StepError) → IsOk (bad e) → ⊥
not_ok e h = cc

-- a loss is refused only where its end is unknown or closed
pub loss_gone : (es : List End) (v : Event) (e : StepError) → IsTrue (is_loss v)
    → ((x : EndId) → end_of v ≡ Some x → slice_get es x.0 ≡ None → bad e ≡ bad error.NoSuchEnd)
    → ((x : EndId) (w : Why) → end_of v ≡ Some x → slice_get es x.0 ≡ Some (ends.Closed w) → bad e ≡ bad (error.Gone w))
    → ((x : EndId) (w : Why) (d : End) → v ≡ event.Lost x w → slice_get es x.0 ≡ Some d → is_open d ≡ true → IsOk (bad e))
    → IsGone e
loss_gone es (event.Lost x w) e h unknown gone lost = gone_in (slice_get es x.0) e (unknown x refl) (λ w. gone x w refl) (λ d at opened. not_ok e (lost x w d refl at opened))
loss_gone es v e h unknown gone lost = absurd cc

-- a loss for which a reply was returned
pub answer_gone : (es : List End) (v : Event) (r : Result Reply StepError) → IsTrue (is_loss v)
    → ((x : EndId) → end_of v ≡ Some x → slice_get es x.0 ≡ None → r ≡ bad error.NoSuchEnd)
    → ((x : EndId) (w : Why) → end_of v ≡ Some x → slice_get es x.0 ≡ Some (ends.Closed w) → r ≡ bad (error.Gone w))
    → ((x : EndId) (w : Why) (d : End) → v ≡ event.Lost x w → slice_get es x.0 ≡ Some d → is_open d ≡ true → IsOk r)
    → IfErr r IsGone
answer_gone es v (Ok r) h unknown gone lost = tt
answer_gone es v (Err e) h unknown gone lost = loss_gone es v e h unknown gone lost

silent_is : (x : EndId) (w : Why) (r : Reply) → r ≡ loss_reply x w → IsSilent r
silent_is x w r e = (ap (λ (q : Reply). q.say) e, ap (λ (q : Reply). q.up) e, ap (λ (q : Reply). q.note) e)

silent_so : (x : EndId) (w : Why) (r : Result Reply StepError) → IfOk r (λ q. q ≡ loss_reply x w) → IfOk r IsSilent
silent_so x w (Ok r) e = silent_is x w r e
silent_so x w (Err e) h = tt

pub answer_silent : (v : Event) (r : Result Reply StepError) → IsTrue (is_loss v) → ((x : EndId) (w : Why) → v ≡ event.Lost x w → IfOk r (λ q. q ≡ loss_reply x w)) → IfOk r IsSilent
answer_silent (event.Lost x w) r h silent = silent_so x w r (silent x w refl)
answer_silent v r h silent = absurd cc

err_is : (e f : StepError) → (let r : Result Effect StepError = Err e in r) ≡ Err f → f ≡ e
err_is e f h = cc

-- where nothing can be done at an end, it was never given out or is closed
pub gone_at : (o : Option End) (e : StepError) → ((f : End → Result Effect StepError) → at_end o f ≡ Err e) → IsGone e
gone_at (Some (ends.Closed w)) e h = subst IsGone (err_is e (error.Gone w) (sym (h (λ _. Err error.NoSuchEnd)))) tt
gone_at o e h = subst IsGone (err_is e error.NoSuchEnd (sym (h (λ _. Err error.NoSuchEnd)))) tt

open_at : (e : End) (x : Effect) (r : StepError) → is_open e ≡ true → at_end (Some e) (λ _. Ok x) ≡ Err r → ⊥
open_at (ends.Closed w) x r opened h = cc
open_at e x r opened h = cc

pub open_found : (o : Option End) (e : End) (x : Effect) (r : StepError) → o ≡ Some e → is_open e ≡ true → ((f : End → Result Effect StepError) → at_end o f ≡ Err r) → ⊥
open_found o e x r at opened h = open_at e x r opened (sym (ap (λ (p : Option End). at_end p (λ _. Ok x)) at) ∙ h (λ _. Ok x))
