use Rattle.dist_epmd_calls.proofs.Words.{sym, subst, arith, HearsLen}
use Rattle.dist_epmd_calls.proofs.{Arrivals.len_cut, Arrivals.len_whole, Asks.reported}
use Rattle.dist_epmd_calls.proofs.bodies.read_len.Goals as goal

pub returns-in_err-read_exact-clause-hears : goal.returns-in_err-read_exact-clause-hears
returns-in_err-read_exact-clause-hears g c = subst (HearsLen _ _ _ _) (sym (reported c.from_residual.ensures.1)) (len_cut c.in_err-read_exact.field-0.0 c.read_exact.new.room (omega arith) c.in_err-read_exact.ensures.hears)

pub returns-clause-hears : goal.returns-clause-hears
returns-clause-hears g c = len_whole c.read_exact.new.room c.from_be_bytes.result (omega arith) (λ i. omega (arith, c.type_inv.header i)) c.from_be_bytes.ensures c.from_be_bytes.type_inv c.in_ok-read_exact.ensures.hears
