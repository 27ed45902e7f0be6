use Rattle.dist_script_play.proofs.{Words.◌∙◌, Words.arith, Reading.one_more_reader}
use Rattle.dist_script_play.proofs.readers.Readers.make_room.Goals as goal

pub room-preserved : goal.room-preserved
room-preserved c =
    rw (c.in_ok-push.ensures.items, c.new.ensures) (one_more_reader c.room.self-inside.kept.items c.args.end_ (omega (arith, c.len.ensures, c.room-test.true)) ∙ c.room.invariant)
