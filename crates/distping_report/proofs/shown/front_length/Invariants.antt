-- The line feeds so far are those of the bytes so far, and no more than there may be.
use Rattle.std.proofs.Common.{◌≡◌, ◌≤◌, ◌-◌, length, take}
use Rattle.distping_report.specs.Shown.{count_feeds}
use Rattle.distping_report.proofs.shown.front_length.Given as goal

abbrev pub invariant-loop-at : goal.invariant-loop-at
invariant-loop-at l = (l.at ≤ length l.text) × (l.feeds ≡ count_feeds (take l.at l.text)) × (l.feeds ≤ l.most)

abbrev pub decreases-loop-at : goal.decreases-loop-at
decreases-loop-at l = length l.text - l.at
