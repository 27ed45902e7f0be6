use Rattle.dist_epmd_calls.proofs.Words.{Ok, sym, subst, rules, written_request}
use Rattle.dist_epmd_calls.proofs.Asks.{Exchanges, reported, asks_in_part, exchange_unheard, exchange_whole, exchange_framed, exchange_none}
use Rattle.dist_epmd_calls.proofs.ask.exchange.Goals as goal

pub returns-in_err-frame : goal.returns-in_err-frame
returns-in_err-frame g c = subst (Exchanges _ _ _ _) (sym (reported c.from_residual.ensures.1)) (exchange_none _ _ _ _ c.in_err-frame.ensures)

pub returns-in_err-write_all : goal.returns-in_err-write_all
returns-in_err-write_all g c =
    let part = exchange_framed c.in_ok-frame.ensures c.as_slice.ensures (asks_in_part _ c.in_err-write_all.ensures.says) in
    let answered = subst (Exchanges _ _ _ _) (sym (reported c.from_residual-in_err-write_all.ensures.1)) part in
    subst (λ s. Exchanges (written_request c.args.request.now) c.args.limit (g.S.Stream.meaning c.args.stream.now) (g.S.Stream.meaning s) c.from_residual-in_err-write_all.result) (search rules) answered

pub returns-in_err-read_to_end : goal.returns-in_err-read_to_end
returns-in_err-read_to_end g c =
    let unheard = exchange_framed c.in_ok-frame.ensures c.as_slice.ensures (exchange_unheard _ _ _ c.in_ok-write_all.ensures.says c.in_err-read_to_end.ensures.hears) in
    let answered = subst (Exchanges _ _ _ _) (sym (reported c.from_residual-in_err-read_to_end.ensures.1)) unheard in
    subst (λ s. Exchanges (written_request c.args.request.now) c.args.limit (g.S.Stream.meaning c.args.stream.now) (g.S.Stream.meaning s) c.from_residual-in_err-read_to_end.result) (search rules) answered

pub returns : goal.returns
returns g c =
    let whole = exchange_framed c.in_ok-frame.ensures c.as_slice.ensures (exchange_whole c.in_ok-read_to_end.field-0 _ (search rules) c.from_vec.ensures c.in_ok-write_all.ensures.says c.in_ok-read_to_end.ensures.hears) in
    subst (λ s. Exchanges (written_request c.args.request.now) c.args.limit (g.S.Stream.meaning c.args.stream.now) (g.S.Stream.meaning s) (Ok c.from_vec.result)) (search rules) whole
