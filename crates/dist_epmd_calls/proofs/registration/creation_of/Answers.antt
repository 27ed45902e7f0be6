use Rattle.dist_epmd_calls.proofs.Words.{Result, sym, subst, Creation, read_answer, Settles, creation_meant, LookupError}
use Rattle.dist_epmd_calls.proofs.Creations.{creation_settles}
use Rattle.dist_epmd_calls.proofs.registration.creation_of.Goals as goal
use Rattle.dist_epmd.specs.declared.message.Asked.TheVariants as asked

pub returns : goal.returns
returns c =
    let read = read_answer asked.Alive c.args.bytes.now in
    subst (λ (r : Result Creation LookupError). Settles r (creation_meant c.args.bytes.now) read) (sym c.creation_in.ensures) (creation_settles c.decode_answer.result read c.decode_answer.ensures.exact c.decode_answer.ensures.lacks)
