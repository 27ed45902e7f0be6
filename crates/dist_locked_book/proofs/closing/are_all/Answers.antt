use Rattle.std.proofs.Common.{refl}
use Rattle.dist_locked_book.proofs.closing.are_all.Goals as goal

pub returns-then-are_numbered : goal.returns-then-are_numbered
returns-then-are_numbered c = (λ t. (c.if-are_numbered.ensures.0 refl, c.are_once.ensures.0 t), λ a. c.are_once.ensures.1 a.1)
