use Rattle.std.proofs.Common.{◌∙◌, ap, arith, ◌<◌, length}
use Rattle.std.proofs.lemmas.Result.{IfOk-weaker}
use Rattle.distping_capture.proofs.Counting.{dials_of, found_in, older, status_in}
use Rattle.distping_capture.proofs.journal.CaptureJournal.settle_oldest.Goals as goal

pub returns-clause-stands : goal.returns-clause-stands
returns-clause-stands g c =
    let some : 0 < length c.args.self.now.dials.items = omega (arith, c.args.self.now.dials.ok.0) in
    IfOk-weaker c.settle.result _ _
    (λ _ same. older c.args.self.now c.settle.new.self c.remove-oldest.result some c.remove-oldest.ensures.value (ap dials_of same ∙ c.remove-oldest.ensures.items) (ap status_in same) (ap found_in same)) c.settle.ensures
