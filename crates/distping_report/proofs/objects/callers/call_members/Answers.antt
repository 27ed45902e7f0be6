use Rattle.std.proofs.Common.{refl}
use Rattle.distping_report.proofs.objects.callers.call_members.Goals as goal

pub returns : goal.returns
returns c = (_, _, _, refl)
