-- What becomes of what is owed on a connection after one try more.
use Rattle.std.proofs.Common.{◌≡◌, Bool, true, false, Option, Some, None, refl, subst}
use Rattle.dist_stream.specs.Stream.{StreamState}
use Rattle.dist_epmd_server.specs.{declared.owed.Owed.Owed, Owing.AfterTry, Owing.Tried, Owing.TryMore}

-- what is over is owed no longer
pub is_over : {S : Type 0} (meaning : S → StreamState) (over : Bool) (old mid new : Option (Owed S)) → over ≡ true → Tried meaning over old mid → new ≡ None → AfterTry meaning false old new
is_over meaning over (Some a) (Some b) None is tried gone = (refl, (b, subst (λ (v : Bool). TryMore meaning a b v) is tried))
is_over meaning over (Some a) (Some b) (Some c) is tried gone = absurd cc
is_over meaning over (Some a) None new is tried gone = absurd tried
is_over meaning over None mid new is tried gone = absurd tried
