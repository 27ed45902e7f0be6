-- The words for refusals of setups, as programs print them.
use Rattle.std.specs.Prelude.{ℕ, List, codes}
use Rattle.dist_world.specs.declared.world_error.WorldError.{WorldError}
use Rattle.dist_world.specs.declared.world_error.WorldError.TheVariants as error

-- the word of a refusal
abbrev pub refusal_name : WorldError → List ℕ
refusal_name error.SameName = codes "SameName"
refusal_name error.NoMemory = codes "NoMemory"
