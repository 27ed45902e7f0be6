-- What a driven call keeps on its way, and what its parts do.
use Rattle.std.specs.Prelude.{◌≡◌, ℕ, suc, ◌+◌, ◌≤◌, ◌⊎◌, Bool, true, List, [], ◌∷◌, ◌++◌, length, map}
use Rattle.std.specs.Prelude.{Option, Some, None, is_some, Result, Ok, Err, IfOk, IfErr, OnOk, eqb, if◌then◌else◌}
use Rattle.std.specs.List.{position_or_len}
use Rattle.dist_frames.specs.Reader.{Reader, Short, Linked, with_bytes, as_linked, without_count}
use Rattle.dist_frames.specs.History.{Accounts, IsBytes}
use Rattle.dist_peers.specs.declared.entry.EndId.{EndId}
use Rattle.dist_core_ends.specs.declared.why.Why.{Why}
use Rattle.dist_core_ends.specs.declared.why.Why.TheVariants as why
use Rattle.dist_core.specs.declared.{reply.Reply.Reply, step_error.StepError.StepError}
use Rattle.dist_core.specs.declared.event.Event.TheVariants as event
use Rattle.dist_core.specs.declared.step_error.StepError.TheVariants as error
use Rattle.dist_stream.specs.{Stream.StreamState, Turns.Hears, Turns.SaysFront, declared.turn_error.TurnError.TurnError}
use Rattle.dist_stream.specs.declared.turn_error.TurnError.TheVariants as fault
use Rattle.dist_drive.specs.Driven.{Start, Finish, is_up, events_of, whole_course, SetsNoMark, Does, Carries}
use Rattle.dist_drive.specs.{declared.outcome.Ending.Ending, Desks.Step, Desks.event_of, Desks.last_reply, Desks.DeskFacts, Numbers.Gives}
use Rattle.dist_drive.specs.declared.outcome.Ending.TheVariants as ending

-- ---- the reader

-- no frame was handed on yet whose reply brought the end up
pub record KeepsShort (input : List ℕ) (frames : List (List ℕ)) (steps : List Step) (pending : List ℕ) : Type 0 where
  -- The input is these frames, and then what is pending.
  pub accounts : Accounts input frames pending
  -- No reply brought the end up.
  pub none_up : position_or_len is_up steps ≡ length steps

-- the last frame that was handed on brought the end up
pub record KeepsLinked (input : List ℕ) (frames : List (List ℕ)) (steps : List Step) (more : List ℕ) : Type 0 where
  -- The input is these frames, and then more.
  pub accounts : Accounts input frames more
  -- The last reply, and no earlier one, brought the end up.
  pub last_up : suc (position_or_len is_up steps) ≡ length steps

-- what the reader holds stood in the input behind the frames that were handed on; once it is linked, packets may be gone
abbrev pub Keeps : List ℕ → List (List ℕ) → List Step → Reader → Type 0
Keeps input frames steps (Short pending) = KeepsShort input frames steps pending
Keeps input frames steps (Linked ended rest) = (more : List ℕ) × KeepsLinked input frames steps more

-- the reader once it is known whether the last frame brought the end up: then all that follows is packets
abbrev pub after_step : Bool → Reader → Reader
after_step up r = if up then as_linked r else r

-- the last frame that was handed on brought the end up, and the reader, which is not yet linked, holds what stood behind it
abbrev pub KeepsUp : List ℕ → List (List ℕ) → List Step → Reader → Type 0
KeepsUp input frames steps (Short rest) = KeepsLinked input frames steps rest
KeepsUp input frames steps (Linked ended rest) = ⊥

-- ---- the call on its way

-- where a call stands
pub record Place (D W : Type 0) : Type 0 where
  pub stream : StreamState
  -- how many reads and writes are left
  pub left : ℕ
  pub desk : D
  pub draws : W

-- the newest reply brought its end up
abbrev pub IsUpNow : List Step → Type 0
IsUpNow list = (reply : Reply) × (last_reply list ≡ Some reply) × (is_some reply.up ≡ true)

module _ {D W : Type 0} (facts : DeskFacts D) (gives : Gives W) where
  -- Each frame that came whole was handed on or waits in the reader, and all that was to be sent was written.
  pub record Runs (start : Start D W) (place : Place D W) (reader : Reader) : Type 0 where
    -- the bytes that were read
    pub input : List ℕ
    -- the frames that were handed on
    pub frames : List (List ℕ)
    pub steps : List Step
    -- All that was to be sent was written.
    pub does : Does facts gives start (whole_course start.first input steps place.left place.draws) place.stream place.desk
    -- The steps hand on these frames, in order.
    pub events : map event_of steps ≡ events_of start.end_ frames
    pub marks : SetsNoMark start.stream place.stream
    -- The reader holds what stands behind those frames.
    pub keeps : Keeps input frames steps reader

  -- The call is on its way. Where a frame brought the end up, no later one was looked at.
  pub record Goes (start : Start D W) (place : Place D W) (reader : Reader) (up : Bool) : Type 0 where
    -- With the reader linked, where the end is up, the call goes on.
    pub runs : Runs start place (after_step up reader)
    -- Where the end is up, the reader has what stands behind its frame.
    pub rest : up ≡ true → KeepsUp runs.input runs.frames runs.steps reader
    -- It is the newest reply that brought it up.
    pub newest : up ≡ true → IsUpNow (facts.list place.desk)

-- ---- one frame

-- why the call ends where the desk refused a frame
abbrev pub ending_of_refusal : StepError → Ending
ending_of_refusal (error.Gone w) = ending.Gone w
ending_of_refusal error.NoMemory = ending.Fault why.NoMemory
ending_of_refusal other = ending.Fault why.GaveUp

-- why the call ends where a read or a write failed
abbrev pub ending_of_stream : TurnError → Ending
ending_of_stream fault.Limit = ending.Limit
ending_of_stream fault.Ended = ending.Fault why.Ended
ending_of_stream fault.ReadFailed = ending.Fault why.ReadFailed
ending_of_stream fault.WriteFailed = ending.Fault why.WriteFailed

-- why a reply closed its own end
abbrev pub own_why : EndId → Option (EndId × Why) → Option Why
own_why end_ None = None
own_why end_ (Some x) = if eqb x.0.0 end_.0 then Some x.1 else None

-- whether the call goes on after a reply was written, or not whole
abbrev pub after_reply : Option Why → Option TurnError → Result (Unit {0}) Ending
after_reply own (Some fault.Limit) = Err ending.Limit
after_reply (Some w) without_count = Err (ending.Shut w)
after_reply None (Some without_count) = Err (ending.Fault why.WriteFailed)
after_reply None None = Ok tt

-- what a reply says was written, or a front of it
pub record SaysReply (end_ : EndId) (reply : Reply) (old new : StreamState) (turns left : ℕ) (result : Result Bool Ending) : Type 0 where
  -- the fault of the writes, where there is one
  pub fault : Option TurnError
  -- A front of what the reply says was written: all of it, unless there is a fault.
  pub says : SaysFront old new turns left fault reply.say
  -- The call goes on only where the reply and the fault let it, and the answer is whether the reply brought the end up.
  pub goes_on : IfOk result (λ up. (after_reply (own_why end_ reply.closed) fault ≡ Ok tt) × (up ≡ is_some reply.up))
  -- It ends as the reply and the fault ask it.
  pub ends : (e : Ending) → result ≡ Err e → after_reply (own_why end_ reply.closed) fault ≡ Err e

module _ {D W : Type 0} (facts : DeskFacts D) (gives : Gives W) (end_ : EndId) (body : List ℕ) where
  -- the desk refused the frame, for which the next number was drawn, and all else is as it was
  pub record RefusesFrame (before after : Place D W) (result : Result Bool Ending) : Type 0 where
    pub number : ℕ
    pub error : StepError
    -- The number is the next one.
    pub number_is : gives before.draws number after.draws
    pub refusal : facts.refusal before.desk (event.Frame end_ body) number error
    -- The call ends for that.
    pub result_is : result ≡ Err (ending_of_refusal error)
    pub desk_is : after.desk ≡ before.desk
    pub stream_is : after.stream ≡ before.stream
    pub left_is : after.left ≡ before.left

  -- the frame was handed on with the next number, and what the reply says was written, or a front of it
  pub record TakesFrame (before after : Place D W) (result : Result Bool Ending) : Type 0 where
    pub number : ℕ
    pub reply : Reply
    -- The number is the next one.
    pub number_is : gives before.draws number after.draws
    -- The desk's list grew by the step.
    pub list_is : facts.list after.desk ≡ facts.list before.desk ++ (event.Frame end_ body, number, reply) ∷ []
    pub says : SaysReply end_ reply before.stream after.stream before.left after.left result

  -- the desk refused the frame, or took it
  abbrev pub HandsOn : Place D W → Place D W → Result Bool Ending → Type 0
  HandsOn before after result = RefusesFrame before after result ⊎ TakesFrame before after result

-- ---- parts of the call

module _ {D W : Type 0} (facts : DeskFacts D) (gives : Gives W) (end_ : EndId) (before : Place D W) (held : Reader) where
  -- whatever call of the end stood at the first place, with this reader, is on its way still
  abbrev pub RunsOn : Place D W → Reader → Type 0
  RunsOn after holds = (start : Start D W) → start.end_ ≡ end_ → Runs facts gives start before held → Runs facts gives start after holds

  -- the same, up to a frame that brought the end up, where one did
  abbrev pub GoesOn : Place D W → Reader → Bool → Type 0
  GoesOn after holds up = (start : Start D W) → start.end_ ≡ end_ → Runs facts gives start before held → Goes facts gives start after holds up

  -- whatever call of the end stood there ends so
  abbrev pub EndsSo : Finish D W → Ending → Type 0
  EndsSo finish ending = (start : Start D W) → start.end_ ≡ end_ → Runs facts gives start before held → Carries facts gives start finish ending

-- ---- a piece

-- the read was refused, and the reader is as it was
pub record HearsNone (old new : StreamState) (turns left : ℕ) (held holds : Reader) (result : Result (Unit {0}) Ending) : Type 0 where
  pub error : TurnError
  -- No byte was read.
  pub hears : Hears old new turns left (Some error) []
  pub ends : result ≡ Err (ending_of_stream error)
  pub held_is : holds ≡ held

-- the piece came to the reader, unless memory ran out
pub record HearsSome (old new : StreamState) (turns left : ℕ) (held holds : Reader) (result : Result (Unit {0}) Ending) : Type 0 where
  pub piece : List ℕ
  pub hears : Hears old new turns left None piece
  pub bytes : IsBytes piece
  pub small : length piece ≤ 4096
  pub turn : turns ≡ left + 1
  -- The reader has the piece.
  pub holds_is : OnOk result (holds ≡ without_count (with_bytes held piece))
  -- The call ends only where memory ran out.
  pub ends : IfErr result (λ e. e ≡ ending.Fault why.NoMemory)

-- no piece came, or one
abbrev pub HearsPiece : StreamState → StreamState → ℕ → ℕ → Reader → Reader → Result (Unit {0}) Ending → Type 0
HearsPiece old new turns left held holds result =
    HearsNone old new turns left held holds result ⊎ HearsSome old new turns left held holds result
