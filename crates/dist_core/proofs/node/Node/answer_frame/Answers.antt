use Rattle.dist_core.proofs.Words.{◌≡◌, slice_get, Some, Ok, Option, sym, ap, ◌∙◌, End, NodeState, effect_by, at_end, framed_from, sender_to}
use Rattle.dist_core.proofs.Kept.{reported-so}
use Rattle.dist_core.proofs.node.Node.answer_frame.Goals as goal
use Rattle.dist_core_ends.specs.declared.known.End.TheVariants as ends
use Rattle.dist_core.specs.declared.event.Event.TheVariants as event

pub returns-in_ok-progress-in-Attempt : goal.returns-in_ok-progress-in-Attempt
returns-in_ok-progress-in-Attempt c =
    let n = c.args.self.now in
    let a = c.in-Attempt.attempt in
    let p = c.in_ok-progress-in-Attempt.progress in
    let here : slice_get n.ends c.args.id.0 ≡ Some (ends.Attempt a) = ap (λ (m : NodeState). slice_get m.ends c.args.id.0) (sym c.self.view_is) ∙ c.in_ok-end.ensures.0 ∙ ap Some c.in-Attempt.is in
    let is : at_end (slice_get n.ends c.args.id.0) (λ e. framed_from n c.args.id c.args.fresh c.args.body.now e (sender_to e)) ≡ Ok (effect_by n.ends c.args.id a p) = ap (λ (o : Option End). at_end o (λ e. framed_from n c.args.id c.args.fresh c.args.body.now e (sender_to e))) here ∙ c.in_ok-progress-in-Attempt.ensures.effect c.args.id in
    reported-so n (event.Frame c.args.id c.args.body.now) _ (effect_by n.ends c.args.id a p) _ is (c.reply_of_progress.ensures a ∙ ap (λ (m : NodeState). (let f = effect_by m.ends c.args.id a p in f.reply)) c.self.view_is)

pub returns-in_ok-effect-in-Unnamed : goal.returns-in_ok-effect-in-Unnamed
returns-in_ok-effect-in-Unnamed c =
    let n = c.args.self.now in
    let here : slice_get n.ends c.args.id.0 ≡ Some ends.Unnamed = ap (λ (m : NodeState). slice_get m.ends c.args.id.0) (sym c.self.view_is) ∙ c.in_ok-end.ensures.0 ∙ ap Some c.in-Unnamed.is in
    reported-so n (event.Frame c.args.id c.args.body.now) _ c.in_ok-effect-in-Unnamed.effect _
    (ap (λ (o : Option End). at_end o (λ e. framed_from n c.args.id c.args.fresh c.args.body.now e (sender_to e))) here ∙ c.in_ok-effect-in-Unnamed.ensures) c.into_reply.ensures
