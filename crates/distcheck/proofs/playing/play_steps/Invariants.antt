-- How the talk stands is what was seen so far comes to.
use Rattle.std.proofs.Common.{◌≡◌, length}
use Rattle.distcheck.specs.Playing.{standing_of, standing_after}
use Rattle.distcheck.proofs.playing.play_steps.Given as goal

abbrev pub invariant-loop-step : goal.invariant-loop-step
invariant-loop-step l = record {
  stands : standing_of l.state ≡ standing_after (standing_of l.initial.state) l.steps l.played.items;
  many : length l.played.items ≡ l.step-index;
}
