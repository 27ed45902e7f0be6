use Rattle.dist_core.proofs.Words.{◌≡◌, slice_get, Some, Option, sym, ap, ◌∙◌, End, NodeState, at_end, opening_effect}
use Rattle.dist_core.proofs.InPlace.{can-be}
use Rattle.dist_core.proofs.node.Node.keep_opened.Goals as goal
use Rattle.dist_core_ends.specs.declared.known.End.TheVariants as ends
use Rattle.dist_core.specs.Step.{effect_of}
use Rattle.dist_core.specs.declared.event.Event.TheVariants as event

pub keep_progress-requires : goal.keep_progress-requires
unfolding effect_of
keep_progress-requires g c =
    let n = c.args.self.now in
    let kept = c.counted_steps.ensures in
    let progress = c.in_ok-progress.ensures in
    let here : slice_get n.ends c.args.id.0 ≡ Some (ends.Attempt c.in-Attempt.attempt) = ap (λ (m : NodeState). slice_get m.ends c.args.id.0) (sym c.self.view_is) ∙ c.in_ok-attempt.ensures.0 ∙ ap Some c.in-Attempt.is in
    let h = can-be n (event.Opened c.args.id c.args._link) 0 c.args.id c.in-Attempt.attempt c.in_ok-progress.progress
    (ap (λ (o : Option End). at_end o (opening_effect n c.args.id)) here ∙ progress.effect c.args.id) here progress.holds kept.bounded kept.numbered in
    record { can = h.0; left = h.1 }
