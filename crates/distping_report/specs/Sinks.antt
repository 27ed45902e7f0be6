-- WHERE RESULTS ARE WRITTEN.
use Rattle.std.specs.Prelude.{◌≡◌, ℕ, Bool, false, List, Option}
use Rattle.std.specs.Io.KnownBytes.{Appends}

-- what contracts see of a sink: the bytes that its writer holds, where they are known, and whether the reader of the output closed it
pub record SinkState : Type 0 where
  pub contents : Option (List ℕ)
  pub is_closed : Bool

-- THIS TEXT WAS PRINTED: unless the reader closed the output, then or before, the writer holds this text behind what it held
pub record Prints (text : List ℕ) (old new : SinkState) : Type 0 where
  pub open_before : new.is_closed ≡ false → old.is_closed ≡ false
  pub put : new.is_closed ≡ false → Appends old.contents new.contents text
