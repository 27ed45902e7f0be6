-- What a client of the port mapper writes and reads, and what the answer means to it.
use Rattle.std.specs.Prelude.{◌≡◌, ℕ, ◌+◌, ◌<◌, ◌≤◌, ◌⊎◌, List, [], ◌∷◌, ◌++◌, length, Option, Some, None, Result, Ok, Err, ◌==◌, if◌then◌else◌}
use Rattle.std.specs.{Int.w16, Io.KnownBytes.prepend_known, Io.KnownBytes.append_known}
use Rattle.dist_names.specs.declared.creation.Creation.{Creation}
use Rattle.dist_frames.specs.Stream.{body_frame}
use Rattle.dist_epmd.specs.{declared.epmd_error.EpmdError.EpmdError, declared.message.NodeInfo.NodeInfo, declared.message.Request.Request}
use Rattle.dist_epmd.specs.{declared.message.Answer.Answer, declared.message.Asked.Asked, Answering.BearsText, Layout.written_request, Reading.read_answer}
use Rattle.dist_epmd.specs.declared.message.Request.TheVariants as request
use Rattle.dist_epmd.specs.declared.message.Answer.TheVariants as answer
use Rattle.dist_epmd.specs.declared.message.Asked.TheVariants as asked
use Rattle.dist_stream.specs.{declared.turn_error.TurnError.TurnError, Stream.StreamState, Turns.Spends}
use Rattle.dist_stream.specs.declared.turn_error.TurnError.TheVariants as fault
use Rattle.dist_epmd_calls.specs.{declared.lookup_error.LookupError.LookupError, Refusals.lookup_error, Refusals.whole_refusal, Refusals.end_refusal}
use Rattle.dist_epmd_calls.specs.declared.lookup_error.LookupError.TheVariants as error

-- ---- what an answer means

-- what a lookup makes of the answer
abbrev pub info_in : Result Answer EpmdError → Result NodeInfo LookupError
info_in (Ok (answer.Port (Ok info))) = Ok info
info_in (Ok (answer.Port (Err code))) = Err error.NotThere
info_in (Ok other) = Err error.Malformed
info_in (Err why) = Err (end_refusal why)

-- what a question for all names makes of the answer
abbrev pub names_in : Result Answer EpmdError → Result (ℕ × List ℕ) LookupError
names_in (Ok (answer.Names port text)) = Ok (port, text)
names_in (Ok other) = Err error.Malformed
names_in (Err why) = Err (end_refusal why)

-- the creation where the result is 0, else the refusal
abbrev pub creation_unless : ℕ → ℕ → Result Creation LookupError
creation_unless code creation = if code == 0 then Ok (record { 0 = creation }) else Err (error.Refused code)

-- what a registration makes of the answer
abbrev pub creation_in : Result Answer EpmdError → Result Creation LookupError
creation_in (Ok (answer.AliveX code creation)) = creation_unless code creation
creation_in (Ok (answer.Alive code creation)) = creation_unless code creation
creation_in (Ok other) = Err error.Malformed
creation_in (Err why) = Err (whole_refusal why)

-- what the bytes that came mean to a lookup
abbrev pub info_meant : List ℕ → Result NodeInfo LookupError
info_meant bytes = info_in (read_answer asked.Port bytes)

-- what the bytes that came mean to a question for all names
abbrev pub names_meant : List ℕ → Result (ℕ × List ℕ) LookupError
names_meant bytes = names_in (read_answer asked.Names bytes)

-- what the bytes that came mean to a registration
abbrev pub creation_meant : List ℕ → Result Creation LookupError
creation_meant bytes = creation_in (read_answer asked.Alive bytes)

-- The answer is the one expected. Memory runs out only where the bytes are an answer that carries a name or a text.
abbrev pub Settles : {X : Type 0} → Result X LookupError → Result X LookupError → Result Answer EpmdError → Type 0
Settles (Err error.NoMemory) expected read = BearsText read
Settles result expected read = result ≡ expected

-- ---- one question

-- which question a request asks
abbrev pub question_of : Request → Asked
question_of (request.Alive info) = asked.Alive
question_of (request.PortPlease name) = asked.Port
question_of request.Names = asked.Names

-- The first part of the frame was written, and bytes were read: none before the whole frame was written. The fault is the one
-- that ended the talk.
pub record Talks (old new : StreamState) (limit : ℕ) (stop : Option TurnError) (frame said heard : List ℕ) : Type 0 where
  pub unsaid : List ℕ
  pub front : frame ≡ said ++ unsaid
  pub first : (unsaid ≡ []) ⊎ (heard ≡ [])
  pub written : new.written ≡ append_known old.written said
  pub unread : old.unread ≡ prepend_known heard new.unread
  pub left : ℕ
  pub spends : Spends old new limit left stop

-- What is returned, by what ended the talk: a fault other than the stream's end is returned as it is, and without a fault memory
-- ran out.
abbrev pub ReportsBy : {X : Type 0} → Option TurnError → Result X LookupError → Type 0 → Type 0
ReportsBy (Some fault.Ended) result AtEnd = AtEnd
ReportsBy (Some other) result AtEnd = result ≡ Err (lookup_error other)
ReportsBy None result AtEnd = result ≡ Err error.NoMemory

-- One question, whose answer is all that comes to the end of the stream after the whole frame was written. AtEnd says what holds of
-- these bytes. Memory does not run out while the frame is being written.
pub record Asks {X : Type 0} (old new : StreamState) (limit : ℕ) (frame : List ℕ) (AtEnd : List ℕ → Type 0) (result : Result X LookupError) : Type 0 where
  pub said : List ℕ
  pub heard : List ℕ
  pub stop : Option TurnError
  pub talks : Talks old new limit stop frame said heard
  -- Without a fault nothing was written and nothing read, or the whole frame was written.
  pub whole : (stop ≡ None) → ((said ≡ []) × (heard ≡ [])) ⊎ (said ≡ frame)
  pub reports : ReportsBy stop result ((said ≡ frame) × AtEnd heard)

-- A request that fits no frame is refused, and the stream is as it was. Of the frame of any other this holds.
abbrev pub IfItFits : {X : Type 0} → Result (List ℕ) EpmdError → StreamState → StreamState → (List ℕ → Type 0) → Result X LookupError → Type 0
IfItFits (Ok body) old new Talk result = Talk (body_frame w16 body)
IfItFits (Err why) old new Talk result = (result ≡ Err error.Malformed) × (new ≡ old)

-- ONE QUESTION OF A CLIENT: what it writes, what it reads, how many turns it takes, and what the bytes mean
abbrev pub AsksFor : {X : Type 0} → Request → StreamState → StreamState → ℕ → (List ℕ → Result X LookupError) → Result X LookupError → Type 0
AsksFor request old new limit means result =
    IfItFits (written_request request) old new
    (λ frame. Asks old new limit frame (λ heard. Settles result (means heard) (read_answer (question_of request) heard)) result) result

-- ---- a registration

-- how many bytes follow this tag
abbrev pub rest_len : ℕ → ℕ
rest_len tag = if tag == 0x76 then 5 else (if tag == 0x79 then 3 else 0)

-- how many bytes an answer to a registration has that begins with these bytes
abbrev pub answer_len : List ℕ → ℕ
answer_len [] = 1
answer_len (tag ∷ rest) = 1 + rest_len tag

-- What is returned, by what ended the registration. A write fails before anything is read; a read fails, the stream ends, or
-- the turns run out inside the answer or before it. Without a fault memory ran out before anything was written, or the whole answer
-- came, and what it means is returned.
abbrev pub ReportsWhole : Option TurnError → Result Creation LookupError → List ℕ → List ℕ → Type 0
ReportsWhole (Some fault.WriteFailed) result said heard = (result ≡ Err error.WriteFailed) × (heard ≡ [])
ReportsWhole (Some other) result said heard = (result ≡ Err (lookup_error other)) × (length heard < answer_len heard)
ReportsWhole None result said heard =
    ((result ≡ Err error.NoMemory) × (said ≡ []) × (heard ≡ []))
    ⊎ ((length heard ≡ answer_len heard) × Settles result (creation_meant heard) (read_answer asked.Alive heard))

-- One registration. No byte behind its answer is read.
pub record Registers (old new : StreamState) (limit : ℕ) (frame : List ℕ) (result : Result Creation LookupError) : Type 0 where
  pub said : List ℕ
  pub heard : List ℕ
  pub stop : Option TurnError
  pub most : length heard ≤ answer_len heard
  pub talks : Talks old new limit stop frame said heard
  pub reports : ReportsWhole stop result said heard

-- ONE REGISTRATION OF A CLIENT: what it writes, what it reads, how many turns it takes, and what the answer means
abbrev pub RegistersFor : NodeInfo → StreamState → StreamState → ℕ → Result Creation LookupError → Type 0
RegistersFor info old new limit result = IfItFits (written_request (request.Alive info)) old new (λ frame. Registers old new limit frame result) result
