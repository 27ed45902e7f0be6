use Rattle.dist_core.proofs.Words.{◌≡◌, slice_get, Some, Ok, Option, sym, ap, ◌∙◌, End, NodeState, effect_by, at_end, opening_effect}
use Rattle.dist_core.proofs.Kept.{reported-so}
use Rattle.dist_core.proofs.node.Node.answer_opened.Goals as goal
use Rattle.dist_core_ends.specs.declared.known.End.TheVariants as ends
use Rattle.dist_core.specs.declared.event.Event.TheVariants as event

pub returns : goal.returns
returns c =
    let n = c.args.self.now in
    let a = c.in-Attempt.attempt in
    let p = c.in_ok-progress.progress in
    let here : slice_get n.ends c.args.id.0 ≡ Some (ends.Attempt a) = ap (λ (m : NodeState). slice_get m.ends c.args.id.0) (sym c.self.view_is) ∙ c.in_ok-attempt.ensures.0 ∙ ap Some c.in-Attempt.is in
    let is : at_end (slice_get n.ends c.args.id.0) (opening_effect n c.args.id) ≡ Ok (effect_by n.ends c.args.id a p) = ap (λ (o : Option End). at_end o (opening_effect n c.args.id)) here ∙ c.in_ok-progress.ensures.effect c.args.id in
    reported-so n (event.Opened c.args.id c.args._link) _ (effect_by n.ends c.args.id a p) _ is (c.reply_of_progress.ensures a ∙ ap (λ (m : NodeState). (let f = effect_by m.ends c.args.id a p in f.reply)) c.self.view_is)
