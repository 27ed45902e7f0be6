use Rattle.std.proofs.Common.{refl, ap, ◌∙◌}
use Rattle.std.specs.{Int.w16}
use Rattle.dist_frames.specs.Stream.{body_frame}
use Rattle.dist_messages.proofs.{Messages.spelled_is_read, Writings.written_is_spelled}
use Rattle.dist_talk.proofs.speaking.spell.Goals as goal

pub returns-in-Ok-write_short : goal.returns-in-Ok-write_short
returns-in-Ok-write_short c =
    let read = spelled_is_read c.args.side c.args.message c.in-Ok.body.items c.requires (written_is_spelled c.args.side c.args.message c.in-Ok.body.items c.in-Ok.ensures.exact) in
    (refl, (c.in-Ok.body.items, read, (c.in-Ok-write_short.ensures.ok ∙ ap (body_frame w16) c.deref.ensures.value)))
