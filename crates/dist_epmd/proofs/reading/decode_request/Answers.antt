use Rattle.dist_epmd.proofs.Words.{subst, arith, Answers, RequestFits, SpellsRequest}
use Rattle.dist_epmd.proofs.Messages.{found, refused, request_again, request_reading}
use Rattle.dist_epmd.proofs.reading.decode_request.Goals as goal

pub returns-clause-found : goal.returns-clause-found
returns-clause-found c = found SpellsRequest RequestFits c.args.body.now _ c.read_request.result (request_reading c.args.body.now (λ i. omega (arith, c.type_inv.body i))) c.read_request.ensures.exact

pub returns-clause-only : goal.returns-clause-only
returns-clause-only c = λ m fits spelled. subst (Answers (λ x. x) c.read_request.result) (request_again m c.args.body.now fits spelled) c.read_request.ensures.exact

pub returns-clause-refused : goal.returns-clause-refused
returns-clause-refused c = refused SpellsRequest RequestFits c.args.body.now _ c.read_request.result (request_reading c.args.body.now (λ i. omega (arith, c.type_inv.body i))) c.read_request.ensures.exact
