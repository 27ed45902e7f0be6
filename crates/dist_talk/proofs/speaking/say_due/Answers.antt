use Rattle.std.proofs.Common.{sym, ap, ◌∙◌, Some}
use Rattle.dist_messages.specs.declared.message.Side.{Side}
use Rattle.dist_talk.specs.declared.handshake.HowEnded.TheVariants as ended
use Rattle.dist_talk.proofs.Frames.{leaves_moves, noted, room_moves, said_moves}
use Rattle.dist_talk.proofs.speaking.say_due.Goals as goal

pub returns-in_default-clause-moves : goal.returns-in_default-clause-moves
returns-in_default-clause-moves g c =
    let k = c.end.new.self in
    room_moves c.args.own.now c.args.talk.now k (g.S.Stream.meaning c.args.limited.now.stream.now) c.args.limited.now.left
    (record { dialler = c.end.ensures.said.0; acceptor = c.end.ensures.said.1; missing = c.end.ensures.missing })
    (noted c.args.talk.now k _ c.requires.open c.end.ensures.first ∙ ap (λ (s : Side). Some (record { side = s; how = ended.NoMemory })) c.other_side.ensures)

pub returns-in-Some-clause-moves : goal.returns-in-Some-clause-moves
returns-in-Some-clause-moves g c =
    said_moves c.args.own.now c.args.due c.in-Some.message c.args.talk.now c.say.new.talk (g.S.Stream.meaning c.args.limited.now.stream.now)
    (g.S.Stream.meaning c.say.new.limited.stream.now) c.args.limited.now.left c.say.new.limited.left c.requires.stood c.requires.turn (sym c.in-Ok.ensures ∙ c.in-Some.is) c.say.ensures.says

pub returns-in-None-clause-moves : goal.returns-in-None-clause-moves
returns-in-None-clause-moves g c =
    let k = c.end-in-None.new.self in
    leaves_moves c.args.own.now c.args.talk.now k (g.S.Stream.meaning c.args.limited.now.stream.now) c.args.limited.now.left c.args.due c.requires.stood c.requires.turn
    (sym c.in-Ok.ensures ∙ c.in-None.is)
    (record { dialler = c.end-in-None.ensures.said.0; acceptor = c.end-in-None.ensures.said.1; missing = c.end-in-None.ensures.missing })
    (noted c.args.talk.now k _ c.requires.open c.end-in-None.ensures.first)
