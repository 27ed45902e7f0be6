use Rattle.std.proofs.Common.{Bool, refl, sym, subst}
use Rattle.dist_messages.specs.declared.message.Side.{Side}
use Rattle.dist_talk.specs.Speaking.{HearsNext, Moves}
use Rattle.dist_talk.proofs.Frames.{decided_moves, heard_moves, none_result}
use Rattle.dist_talk.proofs.speaking.take_turn.Goals as goal

pub returns-in_default-clause-moves : goal.returns-in_default-clause-moves
returns-in_default-clause-moves g c = decided_moves c.args.own.now c.args.talk.now (g.S.Stream.meaning c.args.limited.now.stream.now) c.args.limited.now.left c.in_default.field-0 c.requires.open (sym c.in_default.ensures)

pub returns-clause-moves : goal.returns-clause-moves
returns-clause-moves g c =
    let h = c.args.talk.now in
    let k = c.hear.new.talk in
    let s0 = g.S.Stream.meaning c.args.limited.now.stream.now in
    let s1 = g.S.Stream.meaning c.hear.new.limited.stream.now in
    let turns = c.args.limited.now.left in
    let left = c.hear.new.limited.left in
    let heard = subst (λ (x : Side). HearsNext x h k s0 s1 turns left) c.other_side.ensures c.hear.ensures.hears in
    subst (λ (b : Bool). Moves b c.args.own.now h k s0 s1 turns left) (none_result k.ending c.is_none-2.result c.is_none-2.ensures)
    (heard_moves c.args.own.now c.in-Due.due h k s0 s1 turns left (sym c.in-Due.ensures) (c.if-is_turn_of.ensures.other refl) heard)
