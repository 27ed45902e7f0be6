-- What closes an end that is up, where a frame came.
use Rattle.dist_core_ends.specs.declared.known.End.TheVariants as ends
use Rattle.dist_core.specs.{Step.effect_of, declared.effect.Effect.Effect, declared.reply.Reply.Reply}
use Rattle.dist_core.specs.declared.event.Event.TheVariants as event
use Rattle.dist_core.specs.declared.step_error.StepError.TheVariants as error
use Rattle.dist_core.proofs.Replies.{replaces_on_reply}
use Rattle.dist_core.proofs.Words.{UpRecord, Why, ◌≡◌, ℕ, List, slice_get, Some, Ok, Err, sym, ap, ◌∙◌, EndId, AreLegal, IsRightReply, NodeState, at_end}
use Rattle.dist_core.proofs.Words.{framed_from, sender_to, step}
use Rattle.dist_core_laws.proofs.Succeeding.{effect-end, has-effect, stands-as}

-- a frame on an end that is up is refused
refused : (n : NodeState) (id : EndId) (body : List ℕ) (fresh : ℕ) (f : Effect) (kept : UpRecord) → slice_get n.ends id.0 ≡ Some (ends.Up kept) → effect_of n (event.Frame id body) fresh ≡ Ok f → ⊥
unfolding effect_of
refused n id body fresh f kept up is =
    let at : effect_of n (event.Frame id body) fresh ≡ Err error.WrongPhase = ap (λ q. at_end q (λ e. framed_from n id fresh body e (sender_to e))) up in
    let bad : Err error.WrongPhase ≡ Ok f = sym at ∙ is in
    absurd cc

-- the closed end was not the event's own, so it was the other end that changed
pub up-ends-on-reply : (n : NodeState) (id : EndId) (body : List ℕ) (fresh : ℕ) (r : Reply) (m : NodeState) (x : EndId) (w : Why) (kept : UpRecord) → AreLegal n.ends → step n (event.Frame id body) fresh ≡ Ok (r, m) → slice_get n.ends x.0 ≡ Some (ends.Up kept) → slice_get m.ends x.0 ≡ Some (ends.Closed w) → IsRightReply n (event.Frame id body)
up-ends-on-reply n id body fresh r m x w kept legal is up closed =
    let v = event.Frame id body in
    let h = has-effect n v fresh r m is in
    let f = h.effect in
    let id-is : f.reply.end_ ≡ id = effect-end n v fresh f h.is in
    stands-as n v fresh f x.0 legal h.is (λ o. o ≡ Some (ends.Closed w) → IsRightReply n v)
    (λ place _. absurd (refused n id body fresh f kept (ap (slice_get n.ends) (sym (ap (λ (y : EndId). y.0) id-is) ∙ place) ∙ up) h.is))
    (λ y s o place _. replaces_on_reply n legal v fresh f y s kept h.is o (ap (slice_get n.ends) place ∙ up))
    (λ same. let bad : Some (ends.Up kept) ≡ Some (ends.Closed w) = sym up ∙ same in absurd cc)
    (ap (λ (k : NodeState). slice_get k.ends x.0) (sym h.node) ∙ closed)
