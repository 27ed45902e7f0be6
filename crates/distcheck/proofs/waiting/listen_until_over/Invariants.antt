-- What came so far was read.
use Rattle.std.proofs.Common.{[]}
use Rattle.distcheck.specs.Seeing.{EndsAt, HearsMore}
use Rattle.distcheck.proofs.waiting.listen_until_over.Given as goal

abbrev pub invariant-loop : goal.invariant-loop
invariant-loop g l = record {
  hears : HearsMore (g.S.Stream.meaning l.initial.link.stream) (g.S.Stream.meaning l.link.stream) [] l.bytes.items;
  ended : EndsAt l.initial.link.end (g.S.Stream.meaning l.initial.link.stream) → EndsAt l.link.end (g.S.Stream.meaning l.link.stream);
}
