use Rattle.dist_core.proofs.Words.{◌≡◌, Ok, sym, ap, ◌∙◌, read, message_of, Dialler}
use Rattle.dist_core.proofs.node.Node.effect_of_first_body.Goals as goal

pub returns-in-Ok : goal.returns-in-Ok
returns-in-Ok c =
    let is : read Dialler c.args.body.now ≡ Ok (message_of c.in-Ok.message) = ap (read Dialler) (sym c.as_slice.ensures) ∙ c.in-Ok.ensures.exact in
    rw is c.effect_of_introduction.ensures
