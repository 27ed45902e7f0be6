use Rattle.dist_core.proofs.Words.{◌≡◌, Ok, sym, ap, ◌∙◌, read, message_of}
use Rattle.dist_core.proofs.node.Node.progress_of_body.Goals as goal

pub returns-in-Ok-clause-effect : goal.returns-in-Ok-clause-effect
returns-in-Ok-clause-effect c id =
    let is : read c.args.side c.args.body.now ≡ Ok (message_of c.in-Ok.message) = ap (read c.args.side) (sym c.as_slice.ensures) ∙ c.in-Ok.ensures.exact in
    rw is (c.in_attempt.ensures.effect id)
