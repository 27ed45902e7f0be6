use Rattle.dist_epmd_calls.proofs.Words.{sym, refl, subst, rules, Registers}
use Rattle.dist_epmd_calls.proofs.{Asks.reported, Registering.registers_in_part, Registering.registers_unheard, Registering.registers_whole}
use Rattle.dist_epmd_calls.proofs.registration.exchange.Goals as goal

pub returns-in_err-write_all : goal.returns-in_err-write_all
returns-in_err-write_all g c =
    let part = subst (Registers _ _ _ _) (sym (reported c.from_residual.ensures.1)) (registers_in_part c.in_err-write_all.field-0.0 c.in_err-write_all.ensures.says) in
    subst (λ s. Registers (g.S.Stream.meaning c.args.stream.now) (g.S.Stream.meaning s) c.args.limit c.args.frame.now c.from_residual.result) (search rules) part

pub returns-in_err-len : goal.returns-in_err-len
returns-in_err-len g c =
    let unheard = subst (Registers _ _ _ _) (sym (reported c.from_residual-in_err-len.ensures.1)) (registers_unheard c.in_err-len.field-0.0 c.in_ok-write_all.ensures.says c.in_err-len.ensures.hears) in
    subst (λ s. Registers (g.S.Stream.meaning c.args.stream.now) (g.S.Stream.meaning s) c.args.limit c.args.frame.now c.from_residual-in_err-len.result) (search rules) unheard

pub returns : goal.returns
returns g c =
    let whole = registers_whole c.in_ok-len.len c.creation_of.result refl c.creation_of.ensures c.in_ok-write_all.ensures.says c.in_ok-len.ensures.hears in
    subst (λ s. Registers (g.S.Stream.meaning c.args.stream.now) (g.S.Stream.meaning s) c.args.limit c.args.frame.now c.creation_of.result) (search rules) whole
