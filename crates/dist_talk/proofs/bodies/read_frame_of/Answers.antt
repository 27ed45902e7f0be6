use Rattle.dist_talk.proofs.Behind.{behind_length}
use Rattle.dist_talk.proofs.bodies.read_frame_of.Goals as goal

pub returns-in_default-header_length-clause-hears : goal.returns-in_default-header_length-clause-hears
returns-in_default-header_length-clause-hears g c =
    behind_length c.fill.new.room c.header_length.result c.args.tags.now c.read_behind.result c.header_length.ensures c.header_length.type_inv c.in_default.ensures.hears c.read_behind.ensures.hears
