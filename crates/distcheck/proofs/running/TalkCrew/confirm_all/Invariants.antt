-- Each talk so far is still there, and is confirmed.
use Rattle.std.specs.Prelude.{◌≡◌, option_copied}
use Rattle.distcheck.specs.Played.{talks_of}
use Rattle.distcheck.proofs.Confirmed.{IsSoFar}
use Rattle.distcheck.proofs.running.TalkCrew.confirm_all.Given as goal

abbrev pub invariant-loop-played : goal.invariant-loop-played
invariant-loop-played l = record {
  talks : talks_of l.confirmed.items ≡ talks_of l.yielded;
  so_far : IsSoFar (option_copied l.deviating) l.confirmed.items;
}
