-- The words for refusals, as programs print them.
use Rattle.std.specs.Prelude.{ℕ, List, codes}
use Rattle.dist_core.specs.declared.step_error.StepError.{StepError}
use Rattle.dist_core.specs.declared.step_error.StepError.TheVariants as error

-- the word of a refusal
abbrev pub refusal_name : StepError → List ℕ
refusal_name error.NoSuchEnd = codes "NoSuchEnd"
refusal_name (error.Gone w) = codes "Gone"
refusal_name error.WrongPhase = codes "WrongPhase"
refusal_name (error.Busy e) = codes "Busy"
refusal_name error.Spent = codes "Spent"
refusal_name error.Full = codes "Full"
refusal_name error.NoMemory = codes "NoMemory"
