-- WHAT A FAULT LEAVES: why a command ended early, and what was then written to standard output and standard error.
use Rattle.std.specs.Prelude.{◌≡◌, ℕ, Bool, true, false, List, Option, Ok, Err}
use Rattle.dist_secret.specs.Hearing.{Hears}
use Rattle.dist_stream.specs.Stream.{StreamState}
use Rattle.dist_epmd.specs.declared.message.Request.TheVariants.{Names}
use Rattle.dist_epmd_calls.specs.Asking.{AsksFor, names_meant}
use Rattle.std.specs.{List.All, Io.KnownBytes.Appends}
use Rattle.dist_names.specs.Escaped.{IsPrintableOrLineFeed}
use Rattle.dist_script.specs.Texts.{PutsFront}
use Rattle.distnode.specs.declared.fault.Fault.TheVariants.{WriteFailed, NoCookie, NoAnswer, AnswerCut, NoMemory}
use Rattle.distnode.specs.{declared.fault.Fault.Fault, Fault.status_of, Fault.fault_line, Printed.cookie_line, Printed.answer_text}
use Rattle.distnode.specs.Printed.{has_whole_lines}

-- A FAULT OF THIS STATUS ENDED A COMMAND: one that stops it in this way. Its line was written to standard error, or, if that failed, a
-- prefix of it
pub record EndsByFault (Stops : Fault → Type 0) (status : ℕ) (old new : Option (List ℕ)) : Type 0 where
  pub cause : Fault
  pub stops : Stops cause
  pub status_is : status_of cause ≡ status
  pub line : PutsFront (fault_line cause) old new

-- WHAT STOPS `cookie`: the file has no cookie; or it has this one, but its line was not written, or just a prefix of it
abbrev pub StopsCookie : Option (List ℕ) → Option (List ℕ) → ℕ → Option (List ℕ) → Option (List ℕ) → Fault → Type 0
StopsCookie before after challenge old new (NoCookie error) = Hears before after (Err error) × (new ≡ old)
StopsCookie before after challenge old new WriteFailed = (cookie : List ℕ) × Hears before after (Ok cookie) × PutsFront (cookie_line cookie challenge) old new
StopsCookie before after challenge old new NoMemory = (cookie : List ℕ) × Hears before after (Ok cookie) × (new ≡ old)
StopsCookie before after challenge old new other = ⊥

-- WHAT STOPS `names`: the question has no answer; or it has this one, whose text was written and ends inside a line; or just a prefix of it
-- was written; or memory ran out for the escape of it
abbrev pub StopsNames : Bool → StreamState → StreamState → ℕ → Option (List ℕ) → Option (List ℕ) → Fault → Type 0
StopsNames terminal before after turns old new (NoAnswer error) = AsksFor Names before after turns names_meant (Err error) × (new ≡ old)
StopsNames terminal before after turns old new AnswerCut =
    (port : ℕ) × (text : List ℕ) × AsksFor Names before after turns names_meant (Ok (port, text)) × (has_whole_lines text ≡ false)
    × (terminal ≡ true → All IsPrintableOrLineFeed (answer_text terminal text)) × Appends old new (answer_text terminal text)
StopsNames terminal before after turns old new WriteFailed =
    (port : ℕ) × (text : List ℕ) × AsksFor Names before after turns names_meant (Ok (port, text)) × PutsFront (answer_text terminal text) old new
StopsNames terminal before after turns old new NoMemory =
    (port : ℕ) × (text : List ℕ) × AsksFor Names before after turns names_meant (Ok (port, text)) × (terminal ≡ true) × (new ≡ old)
StopsNames terminal before after turns old new other = ⊥
