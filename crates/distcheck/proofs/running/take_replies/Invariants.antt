-- Behind what was there stand the talks of each lane whose reply was taken.
use Rattle.std.proofs.Common.{◌≡◌, ◌++◌}
use Rattle.distcheck.specs.{Lanes.all_in, Lanes.lanes_in, Played.talks_of}
use Rattle.distcheck.proofs.running.take_replies.Given as goal

abbrev pub invariant-loop-reply : goal.invariant-loop-reply
invariant-loop-reply l = talks_of l.played.items ≡ talks_of l.initial.played.items ++ all_in (lanes_in l.yielded)
