-- Each talk so far was played.
use Rattle.std.proofs.Common.{◌≡◌, take}
use Rattle.distcheck.specs.Played.{talks_of}
use Rattle.distcheck.proofs.running.TalkCrew.play_lane.Given as goal

abbrev pub invariant-loop-queued : goal.invariant-loop-queued
invariant-loop-queued l = talks_of l.played.items ≡ take l.queued-index l.lane
