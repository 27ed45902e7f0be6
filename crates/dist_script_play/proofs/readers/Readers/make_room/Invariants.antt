use Rattle.dist_script_play.proofs.Words.{◌≡◌, suc, ◌-◌, length, readers_to}
use Rattle.dist_script_play.proofs.readers.Readers.make_room.Given as goal

-- with those that are still to be made they are all
abbrev pub invariant-room : goal.invariant-room
invariant-room l = readers_to l.self-inside.kept.items l.end_ ≡ readers_to l.fn.self l.end_

abbrev pub decreases-room : goal.decreases-room
decreases-room l = let x = l.end_ in suc x.0 - length l.self-inside.kept.items
