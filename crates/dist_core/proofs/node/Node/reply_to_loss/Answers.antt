use Rattle.dist_core.proofs.Words.{ℕ, List, slice_get, Some, None, Ok, sym, ap, ◌∙◌, closes, NodeState, at_end, Reply}
use Rattle.dist_core.proofs.Kept.{reported-so}
use Rattle.dist_core.proofs.node.Node.reply_to_loss.Goals as goal
use Rattle.dist_core.specs.Step.{effect_of}
use Rattle.dist_core.specs.declared.event.Event.TheVariants as event
use Rattle.dist_core.specs.declared.reply.Note.TheVariants as note

pub returns-clause-answer : goal.returns-clause-answer
unfolding effect_of
returns-clause-answer c = λ fresh.
    let n = c.args.self.now in
    let f = closes c.args.id c.args.why in
    let here = ap (λ (m : NodeState). at_end (slice_get m.ends c.args.id.0) (λ _. Ok f)) (sym c.self.view_is) ∙ c.in_ok-_end.ensures.1 (λ _. Ok f) in
    let said : List ℕ → Reply = λ say. record { end_ = c.args.id; say = say; closed = Some (c.args.id, c.args.why); up = None; note = note.Nothing } in
    reported-so n (event.Lost c.args.id c.args.why) _ f _ here (c.reply_of_end.ensures ∙ ap said c.new.ensures)
