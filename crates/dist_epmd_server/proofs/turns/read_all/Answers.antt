use Rattle.std.proofs.{Common.◌<◌, Common.length, Common.rules, Common.refl, Common.◌∙◌, Common.arith, lemmas.Grind.common_steps}
use Rattle.dist_epmd_server.specs.{Turns.none, Turns.next, declared.turns.ReadStep.TheVariants.More}
use Rattle.dist_epmd_server.proofs.turns.read_all.Goals as goal

pub loop-init : goal.loop-init
loop-init g c =
    let room : 0 < length c.args.room.now = first_of (search rules, grind (arith, common_steps)) in
    record { turns = none; others = λ other apart. refl; room = room }

pub returns-then-is_empty-clause-turns : goal.returns-then-is_empty-clause-turns
returns-then-is_empty-clause-turns g c = none

pub returns-in_default : goal.returns-in_default
returns-in_default g c = record {
  turns = next c.read_once.new.room c.loop.clients c.read_once.new.clients c.read_once.result c.loop.invariant.turns c.read_once.ensures.turns;
  others = λ other apart. c.read_once.ensures.others other apart ∙ c.loop.invariant.others other apart;
  left = c.read_once.ensures.left;
}

pub loop-preserved : goal.loop-preserved
loop-preserved g c = record {
  turns = next c.read_once.new.room c.loop.clients c.read_once.new.clients More c.loop.invariant.turns c.in-More.ensures.turns;
  others = λ other apart. c.read_once.ensures.others other apart ∙ c.loop.invariant.others other apart;
  room = omega (arith, c.read_once.auto.room, c.loop.invariant.room);
}
