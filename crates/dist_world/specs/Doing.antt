-- What the calls that make one happening return.
use Rattle.std.specs.Prelude.{◌≡◌, Bool, true, false, Option, Some, None, is_some, Result, Ok, Err}
use Rattle.std.specs.declared.alloc.AllocError.{AllocError}
use Rattle.dist_world_model.specs.{World.World, Happenings.ticked_on}

-- THE HAPPENING was made, did not apply, or memory ran out, and then nothing changed
abbrev pub Did : Result Bool AllocError → Option World → World → World → Type 0
Did (Ok true) o old new = o ≡ Some new
Did (Ok false) o old new = (o ≡ None) × (new ≡ old)
Did (Err e) o old new = new ≡ old

-- the same with the clock
abbrev pub Happened : Result Bool AllocError → Option World → World → World → Type 0
Happened (Ok b) o old new = (b ≡ is_some o) × (new ≡ ticked_on old o)
Happened (Err e) o old new = new ≡ old
