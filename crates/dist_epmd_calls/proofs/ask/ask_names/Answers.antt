use Rattle.dist_epmd_calls.proofs.Words.{sym, subst, read_answer, AsksFor, Settles, names_meant}
use Rattle.dist_epmd_calls.proofs.Asks.{reported, answer_of, refusal_of}
use Rattle.dist_epmd_calls.proofs.ask.ask_names.Goals as goal
use Rattle.dist_epmd.specs.declared.message.Asked.TheVariants as asked
use Rattle.dist_epmd.specs.declared.message.Request.TheVariants as request

pub returns-in_err-bytes : goal.returns-in_err-bytes
returns-in_err-bytes g c = subst (AsksFor request.Names _ _ _ names_meant) (sym (reported c.from_residual.ensures.1)) (refusal_of request.Names _ _ _ names_meant _ c.in_err-bytes.ensures)

pub returns : goal.returns
returns g c =
    let exact = subst (λ b. Settles c.names_of.result (names_meant b) (read_answer asked.Names b)) c.as_slice.ensures c.names_of.ensures in
    answer_of request.Names _ _ _ names_meant c.in_ok-bytes.bytes c.names_of.result exact c.in_ok-bytes.ensures
