-- Each call has one address less.
use Rattle.std.proofs.Common.{length}
use Rattle.distping_report.proofs.objects.parts.+put_each_try.Given as goal

abbrev pub decreases-put_each_try : goal.decreases-put_each_try
decreases-put_each_try l = length l.addresses.now
