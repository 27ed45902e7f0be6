use Rattle.dist_epmd_calls.proofs.Words.{sym, subst, written_request, RegistersFor}
use Rattle.dist_epmd_calls.proofs.{Asks.reported, Registering.registers_unframed, Registering.registers_framed}
use Rattle.dist_epmd_calls.proofs.registration.register.Goals as goal
use Rattle.dist_epmd.specs.declared.message.Request.TheVariants as request

pub returns-in_err-frame : goal.returns-in_err-frame
returns-in_err-frame g c = subst (RegistersFor c.args.request.now _ _ _) (sym (reported c.from_residual.ensures.1)) (registers_unframed _ _ (written_request (request.Alive c.args.request.now)) c.in_err-frame.field-0.0 c.in_err-frame.ensures)

pub returns : goal.returns
returns g c = registers_framed {w = written_request (request.Alive c.args.request.now)} c.in_ok-frame.ensures c.as_slice.ensures c.exchange.ensures
