use Rattle.dist_epmd_calls.proofs.Words.{ap}
use Rattle.dist_epmd_calls.proofs.{Asks.bad, Asks.reported, Serves.answer_cut, Serves.answer_unsaid, Serves.says_as}
use Rattle.dist_epmd_calls.proofs.serve.write_answer.Goals as goal

pub returns-in-Err-clause-says : goal.returns-in-Err-clause-says
returns-in-Err-clause-says g c = says_as c.args.answer.now (ap bad c.whole_refusal.ensures) (answer_unsaid _ _ c.args.answer.now c.in-Err.error c.in-Err.ensures.exact)

pub returns-in_err-write_all-clause-says : goal.returns-in_err-write_all-clause-says
returns-in_err-write_all-clause-says g c = says_as c.args.answer.now (reported c.from_residual.ensures.1) (answer_cut c.in_err-write_all.field-0.0 c.args.answer.now c.in-Ok.bytes.items c.as_slice.result.now c.as_slice.ensures.value c.in-Ok.ensures.exact c.in_err-write_all.ensures.says)
