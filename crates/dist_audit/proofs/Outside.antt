-- What is asked unless somebody outside did it.
use Rattle.dist_audit.proofs.Words.{Bool, true, false, UnlessOutside}

-- what holds, holds
pub unless : {P : Type 0} (b : Bool) → P → UnlessOutside b P
unless true p = tt
unless false p = p

-- where nothing is asked
pub nothing : (b : Bool) → UnlessOutside b (Unit {0})
nothing b = unless b tt
