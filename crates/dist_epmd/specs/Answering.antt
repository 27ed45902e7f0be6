-- What a call that may run out of memory returns.
use Rattle.std.specs.Prelude.{ℕ, Bool, true, false, List, codes, Result, Ok, Err}
use Rattle.dist_names.specs.Answer.{AnswersBut}
use Rattle.dist_epmd.specs.declared.epmd_error.EpmdError.TheVariants.{Malformed, Short, Trailing, NoMemory}
use Rattle.dist_epmd.specs.declared.{message.Answer.Answer, message.Request.Request, epmd_error.EpmdError.EpmdError}
use Rattle.dist_epmd.specs.declared.message.Answer.TheVariants as answer
use Rattle.dist_epmd.specs.declared.message.Request.TheVariants as request

-- memory ran out
abbrev pub is_want : EpmdError → Bool
is_want NoMemory = true
is_want _ = false

-- By its view, the answer is the one expected, or out of memory.
abbrev pub Answers : {X Y : Type 0} → (X → Y) → Result X EpmdError → Result Y EpmdError → Type 0
Answers view result expected = AnswersBut is_want view result expected

-- the answer that was read carries a name or a text
abbrev pub BearsText : Result Answer EpmdError → Type 0
BearsText (Ok (answer.Port (Ok info))) = Unit {0}
BearsText (Ok (answer.Names port text)) = Unit {0}
BearsText other = ⊥

-- Memory runs out only for an answer that carries a name or a text.
abbrev pub LacksText : {X : Type 0} → Result X EpmdError → Result Answer EpmdError → Type 0
LacksText (Err NoMemory) expected = BearsText expected
LacksText result expected = Unit {0}

-- the request that was read carries a name
abbrev pub BearsName : Result Request EpmdError → Type 0
BearsName (Ok (request.Alive info)) = Unit {0}
BearsName (Ok (request.PortPlease name)) = Unit {0}
BearsName other = ⊥

-- Memory runs out only for a request that carries a name.
abbrev pub LacksName : {X : Type 0} → Result X EpmdError → Result Request EpmdError → Type 0
LacksName (Err NoMemory) expected = BearsName expected
LacksName result expected = Unit {0}

-- the word that a program prints for a refusal
abbrev pub error_name : EpmdError → List ℕ
error_name Malformed = codes "Malformed"
error_name Short = codes "Short"
error_name Trailing = codes "Trailing"
error_name NoMemory = codes "NoMemory"
