-- What is put on a page, and what of it is written.
use Rattle.std.specs.{Prelude.◌≡◌, Prelude.◌⊎◌, Prelude.ℕ, Prelude.List, Prelude.◌++◌, Prelude.Option, Io.StartsWith, Io.KnownBytes.Appends}
use Rattle.dist_script.specs.declared.fault.ScriptFault.TheVariants.{WriteFailed, NoMemory}
use Rattle.dist_script.specs.{Texts.PutsFront, declared.fault.ScriptFault.ScriptFault}

-- A TEXT WAS PUT ON A PAGE: what is written and what is still on the page are what was on it, and the text
pub record Puts (text : List ℕ) (old new : Option (List ℕ)) (page left : List ℕ) : Type 0 where
  pub written : List ℕ
  pub put : Appends old new written
  pub whole : written ++ left ≡ page ++ text

-- a write failed, or memory ran out
abbrev pub IsOfSystem : ScriptFault → Type 0
IsOfSystem fault = (fault ≡ WriteFailed) ⊎ (fault ≡ NoMemory)

-- A PREFIX OF A TEXT WAS PUT ON A PAGE, until a write failed or memory ran out: what is written and what is still on the page begin
-- what was on it and the text
pub record PutsPart (text : List ℕ) (old new : Option (List ℕ)) (page left : List ℕ) (fault : ScriptFault) : Type 0 where
  pub written : List ℕ
  pub put : Appends old new written
  pub begins : StartsWith (page ++ text) (written ++ left)
  pub cause : IsOfSystem fault

-- A PREFIX OF A TEXT WAS WRITTEN, until a write failed or memory ran out
pub record BreaksOff (text : List ℕ) (old new : Option (List ℕ)) (fault : ScriptFault) : Type 0 where
  pub front : PutsFront text old new
  pub cause : IsOfSystem fault
