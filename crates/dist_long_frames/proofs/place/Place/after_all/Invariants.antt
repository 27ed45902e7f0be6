-- What is still to come leads to the same place.
use Rattle.std.proofs.Common.{◌≡◌, drop}
use Rattle.dist_long_frames.specs.Shortened.{place_after}
use Rattle.dist_long_frames.proofs.place.Place.after_all.Given as goal

abbrev pub invariant-loop-byte : goal.invariant-loop-byte
invariant-loop-byte l = place_after l.place (drop l.byte-index l.bytes) ≡ place_after l.fn.self l.bytes
