use Rattle.std.proofs.Common.{refl, arith}
use Rattle.dist_talk.proofs.Frames.{full_spoke, going_none}
use Rattle.dist_talk.proofs.speaking.take_turns.Goals as goal

pub loop-count-init : goal.loop-count-init
loop-count-init g c = record {
  goes = going_none c.args.own.now c.args.talk.now (g.S.Stream.meaning c.args.limited.now.stream.now) c.args.limited.now.left c.requires.dialler c.requires.acceptor c.requires.whole c.requires.open;
  most = omega arith;
  loan = refl;
}

pub returns-then-not-take_turn-clause-spoke : goal.returns-then-not-take_turn-clause-spoke
returns-then-not-take_turn-clause-spoke g c =
    c.if-not-take_turn.ensures.moves c.loop-count.count (g.S.Stream.meaning c.args.limited.now.stream.now) c.args.limited.now.left c.loop-count.invariant.goes

pub returns-clause-spoke : goal.returns-clause-spoke
returns-clause-spoke g c =
    full_spoke c.args.own.now c.loop-count.talk (g.S.Stream.meaning c.args.limited.now.stream.now) (g.S.Stream.meaning c.loop-count.limited.stream.now) c.args.limited.now.left
    c.loop-count.limited.left c.loop-count.count (omega (arith, c.loop-count-test.false, c.loop-count.invariant.most)) c.loop-count.invariant.goes
