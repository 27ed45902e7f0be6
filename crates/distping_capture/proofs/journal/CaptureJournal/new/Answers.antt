use Rattle.std.proofs.Common.{refl}
use Rattle.distping_capture.proofs.Keeping.{keeps_none}
use Rattle.distping_capture.proofs.journal.CaptureJournal.new.Goals as goal

pub returns : goal.returns
returns g c = keeps_none _ c.new-3.ensures.items refl
