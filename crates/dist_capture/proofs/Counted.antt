-- Each packet that is read either gives a segment or is counted once.
use Rattle.std.proofs.Common.{◌≡◌, ℕ, ◌+◌, ◌<◌, ◌^◌, List, length, take, Option, Result, Ok, Err, refl, ap, ◌∙◌, arith, length-append, option_to_list}
use Rattle.dist_capture.specs.Counting.{counted, total}
use Rattle.dist_capture.specs.Reading.{Reading, timed, heard, counts_by, counts_after, Gives, Reads, Done, Next, packet_count, packets}
use Rattle.dist_capture.specs.{Parts.part, Tcp.Said, Tcp.segment_of, declared.skipped.Skipped.Skipped, declared.skipped.SkippedCounts.SkippedCounts, declared.unit.Unit.Unit}
use Rattle.dist_capture.specs.declared.skipped.Skipped.TheVariants.{UnknownLink, CutShort, Vxlan, Gre, IpInIp, ManyHeaders, OtherProtocol, Fragment, Malformed}
use Rattle.dist_capture.specs.declared.unit.Unit.TheVariants as unit

one_more : (c : SkippedCounts) (e : Skipped) → total c + 1 < 2 ^ 64 → total (counted c e) ≡ total c + 1
one_more c (UnknownLink link) lt = omega arith
one_more c CutShort lt = omega arith
one_more c Vxlan lt = omega arith
one_more c Gre lt = omega arith
one_more c IpInIp lt = omega arith
one_more c ManyHeaders lt = omega arith
one_more c OtherProtocol lt = omega arith
one_more c Fragment lt = omega arith
one_more c Malformed lt = omega arith

by_packet : (c : SkippedCounts) (time : ℕ) (found : Result Said Skipped) → total c + 1 < 2 ^ 64
    → length (option_to_list (timed time found)) + total (counts_by c found) ≡ 1 + total c
by_packet c time (Ok said) lt = refl
by_packet c time (Err e) lt = omega (arith, one_more c e lt)

by_unit : (c : SkippedCounts) (says : Unit) (bytes : List ℕ) → total c + packet_count says < 2 ^ 64
    → length (option_to_list (heard says bytes)) + total (counts_after c says bytes) ≡ packet_count says + total c
by_unit c (unit.Packet time link at len) bytes lt = by_packet c time (segment_of link (part at len bytes)) lt
by_unit c (unit.File order nano link) bytes lt = refl
by_unit c (unit.Section order) bytes lt = refl
by_unit c (unit.Described interface) bytes lt = refl
by_unit c unit.Other bytes lt = refl

by_step : (r later : Reading) (segment : Option (ℕ × Said)) (g : Gives r segment later) → total r.counts + packet_count g.says < 2 ^ 64
    → length (option_to_list segment) + total later.counts ≡ packet_count g.says + total r.counts
by_step r later segment g lt = rw (g.is_heard, g.is_later) (by_unit r.counts g.says (take g.len r.pending) lt)

pub each_counted : (r later : Reading) (segments : List (ℕ × Said)) (run : Reads r segments later) → total r.counts + packets r later segments run < 2 ^ 64
    → length segments + total later.counts ≡ packets r later segments run + total r.counts
each_counted r later segments (Done s) lt = refl
each_counted r later segments (Next s mid end segment others all g rest is) lt =
    let here : length (option_to_list segment) + total mid.counts ≡ packet_count g.says + total s.counts = by_step s mid segment g (omega arith) in
    let behind : length others + total end.counts ≡ packets mid end others rest + total mid.counts = each_counted mid end others rest (omega (arith, here)) in
    let n : length all ≡ length (option_to_list segment) + length others = ap length is ∙ length-append (option_to_list segment) others in
    omega (arith, here, behind, n)
