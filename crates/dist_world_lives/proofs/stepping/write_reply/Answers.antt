use Rattle.dist_world_model.proofs.Words.{is_some, UpRecord, ◌≡◌, Some, None, Option, refl, rises}
use Rattle.dist_world_lives.proofs.Writing.{as_marked}
use Rattle.dist_world_lives.proofs.stepping.write_reply.Goals as goal

is_rise : (up : Option UpRecord) → is_some up ≡ rises up
is_rise None = refl
is_rise (Some r) = refl

pub returns-clause-rows : goal.returns-clause-rows
returns-clause-rows c = rw (c.note_own.ensures, c.doom.ensures, c.doomed_end.ensures, c.close_row.ensures, c.is_some.ensures, is_rise) (as_marked c.args.clock c.args.reply c.args.rows.now.items)
