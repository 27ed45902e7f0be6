use Rattle.dist_epmd_calls.proofs.Words.{◌≡◌, suc, false, ltb, length, Ok, Err, sym, subst, arith, le-ltb, written_request, read_answer, AsksFor, Settles}
use Rattle.dist_epmd_calls.proofs.Words.{info_meant}
use Rattle.dist_epmd_calls.proofs.Asks.{Exchanges, reported, unsent, asks_none, fits_frame, answer_of, refusal_of}
use Rattle.dist_epmd_calls.proofs.ask.lookup.Goals as goal
use Rattle.dist_epmd.specs.declared.message.Asked.TheVariants as asked
use Rattle.dist_epmd.specs.declared.message.Request.TheVariants as request

pub returns-in_err-from_slice : goal.returns-in_err-from_slice
returns-in_err-from_slice g c =
    let short = c.args.short.now in
    let fits : ltb 65535 (suc (length short)) ≡ false = le-ltb 65535 (suc (length short)) (omega arith) in
    subst (AsksFor (request.PortPlease short) _ _ _ info_meant) (sym (reported c.from_residual.ensures.1)) (unsent _ _ _ (written_request (request.PortPlease short)) (fits_frame (request.PortPlease short) fits) (asks_none _ c.args.limit _))

pub returns-in_err-bytes : goal.returns-in_err-bytes
returns-in_err-bytes g c =
    let named = subst (λ n. Exchanges (written_request (request.PortPlease n)) c.args.limit (g.S.Stream.meaning c.args.stream.now) (g.S.Stream.meaning c.exchange.new.stream) (Err c.in_err-bytes.field-0.0)) c.in_ok-from_slice.ensures c.in_err-bytes.ensures in
    subst (AsksFor (request.PortPlease c.args.short.now) _ _ _ info_meant) (sym (reported c.from_residual-in_err-bytes.ensures.1)) (refusal_of (request.PortPlease c.args.short.now) _ _ _ info_meant _ named)

pub returns : goal.returns
returns g c =
    let named = subst (λ n. Exchanges (written_request (request.PortPlease n)) c.args.limit (g.S.Stream.meaning c.args.stream.now) (g.S.Stream.meaning c.exchange.new.stream) (Ok c.in_ok-bytes.bytes)) c.in_ok-from_slice.ensures c.in_ok-bytes.ensures in
    let exact = subst (λ b. Settles c.info_of.result (info_meant b) (read_answer asked.Port b)) c.as_slice.ensures c.info_of.ensures in
    answer_of (request.PortPlease c.args.short.now) _ _ _ info_meant c.in_ok-bytes.bytes c.info_of.result exact named
