use Rattle.std.proofs.Common.{◌≡◌, length}
use Rattle.dist_capture.proofs.Laying.{Laid}
use Rattle.dist_capture.proofs.places.fill_in.Given as goal

abbrev pub invariant-loop-i : goal.invariant-loop-i
invariant-loop-i l = record {
  len : length l.known.items ≡ length l.fn.known.items;
  places : Laid l.place l.bytes l.fn.known.items l.i l.known.items;
}
