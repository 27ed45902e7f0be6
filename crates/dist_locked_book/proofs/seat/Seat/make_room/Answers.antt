use Rattle.std.proofs.Common.{rules}
use Rattle.dist_locked_book.proofs.seat.Seat.make_room.Goals as goal

pub returns-clause-lost : goal.returns-clause-lost
returns-clause-lost c = search rules
