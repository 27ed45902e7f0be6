-- The answer of a port mapper to the question for all names (ERTS User's Guide, Distribution Protocol, Get All Registered Names from
-- EPMD), as far as it arrived.
use Rattle.std.specs.Prelude.{◌≡◌, ℕ, ◌≤◌, Bool, List, [], ◌∷◌, ◌++◌, Option, Some, None, length}
use Rattle.dist_stream.specs.{Stream.StreamState, Turns.Hears, Turns.SaysFront, Turns.reports_end, declared.turn_error.TurnError.TurnError}
use Rattle.distmapd.specs.declared.{answer.ReceivedAnswer.ReceivedAnswer, fault.Fault.Fault}
use Rattle.distmapd.specs.declared.fault.Fault.TheVariants as fault

-- the frame of the question: a length, then a body of one byte
abbrev pub question : List ℕ
question = 0 ∷ 1 ∷ 0x6e ∷ []

-- why reading stopped: a fault, or enough bytes were there
abbrev pub HasEnough : Option TurnError → List ℕ → Type 0
HasEnough None bytes = 1048576 ≤ length bytes
HasEnough (Some error) bytes = Unit {0}

-- The bytes that were read follow those that were there. Reading stopped at the first fault, or after a mebibyte. The answer counts as
-- ended exactly if the stream reported its end.
pub record ReadsRest (old new : StreamState) (turns left : ℕ) (is_ended : Bool) (before after : List ℕ) : Type 0 where
  pub heard : List ℕ
  pub stop : Option TurnError
  pub hears : Hears old new turns left stop heard
  pub stands : after ≡ before ++ heard
  pub ended : is_ended ≡ reports_end stop
  pub enough : HasEnough stop after

-- THE ANSWER AS FAR AS IT ARRIVED: just the whole question was sent, and the bytes are all that was then read, in at most 65,536 writes
-- and reads, quiet ones included.
pub record AnswersNames (old new : StreamState) (answer : ReceivedAnswer) : Type 0 where
  pub mid : StreamState
  pub left : ℕ
  pub rest : ℕ
  pub says : SaysFront old mid 65536 left None question
  pub reads : ReadsRest mid new left rest answer.is_ended [] answer.bytes.items

-- the faults after which nothing of an answer is known
abbrev pub IsFaultOfAsking : Fault → Type 0
IsFaultOfAsking fault.NoAnswer = Unit {0}
IsFaultOfAsking fault.NoMemory = Unit {0}
IsFaultOfAsking _ = ⊥

-- the exit status after a fault: 2 if the words or the environment are refused
abbrev pub fault_status : Fault → ℕ
fault_status (fault.BadWords text) = 2
fault_status fault.NoText = 2
fault_status fault.BadAddress = 2
fault_status _ = 1
