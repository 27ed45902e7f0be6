use Rattle.dist_epmd_calls.proofs.Words.{sym, subst, rules, Serves}
use Rattle.dist_epmd_calls.proofs.{Asks.reported, Serves.serves_none, Serves.serves_asked}
use Rattle.dist_epmd_calls.proofs.serve.serve_registry.Goals as goal

pub returns-in_err-request : goal.returns-in_err-request
returns-in_err-request g c =
    let none = subst (Serves _ _ _ _ _ _ _ _) (sym (reported c.from_residual.ensures.1)) (serves_none c.in_err-request.field-0.0 c.in_err-request.ensures.hears) in
    subst (λ s. Serves g.M.Mapper.allows g.M.Mapper.leaves c.args.conn c.args.limit (g.S.Stream.meaning c.args.stream.now) (g.S.Stream.meaning s) c.args.mapper.now c.args.mapper.now c.from_residual.result) (search rules) none

pub returns : goal.returns
returns g c =
    let served = serves_asked c.in_ok-request.request c.in_ok-request.ensures.hears c.reply.ensures.says in
    subst (λ s. Serves g.M.Mapper.allows g.M.Mapper.leaves c.args.conn c.args.limit (g.S.Stream.meaning c.args.stream.now) (g.S.Stream.meaning s) c.args.mapper.now c.reply.new.mapper c.reply.result) (search rules) served
