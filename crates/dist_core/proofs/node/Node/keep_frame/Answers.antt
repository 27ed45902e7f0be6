use Rattle.dist_core.proofs.Words.{◌≡◌, slice_get, Some, Option, sym, ap, ◌∙◌, End, NodeState, at_end, framed_from, sender_to}
use Rattle.dist_core.proofs.InPlace.{can-be}
use Rattle.dist_core.proofs.node.Node.keep_frame.Goals as goal
use Rattle.dist_core_ends.specs.declared.known.End.TheVariants as ends
use Rattle.dist_core.specs.Step.{effect_of}
use Rattle.dist_core.specs.declared.event.Event.TheVariants as event

pub keep_progress-requires : goal.keep_progress-requires
unfolding effect_of
keep_progress-requires g c =
    let n = c.args.self.now in
    let kept = c.counted_steps.ensures in
    let progress = c.in_ok-progress-in-Attempt.ensures in
    let here : slice_get n.ends c.args.id.0 ≡ Some (ends.Attempt c.in-Attempt.attempt) = ap (λ (m : NodeState). slice_get m.ends c.args.id.0) (sym c.self.view_is) ∙ c.in_ok-end.ensures.0 ∙ ap Some c.in-Attempt.is in
    let h = can-be n (event.Frame c.args.id c.args.body.now) c.args.fresh c.args.id c.in-Attempt.attempt c.in_ok-progress-in-Attempt.progress
    (ap (λ (o : Option End). at_end o (λ e. framed_from n c.args.id c.args.fresh c.args.body.now e (sender_to e))) here ∙ progress.effect c.args.id) here progress.holds kept.bounded kept.numbered in
    record { can = h.0; left = h.1 }
