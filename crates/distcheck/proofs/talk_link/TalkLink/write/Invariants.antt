-- What was written so far is a front of the bytes.
use Rattle.distcheck.specs.Seeing.{Wrote}
use Rattle.distcheck.proofs.talk_link.TalkLink.write.Given as goal

abbrev pub invariant-loop : goal.invariant-loop
invariant-loop g l = Wrote (g.S.Stream.meaning l.initial.self.stream) (g.S.Stream.meaning l.self.stream) l.bytes l.at
