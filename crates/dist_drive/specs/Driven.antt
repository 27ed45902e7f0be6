-- ONE DRIVEN CALL: what it read, what it handed on, what it wrote, and how it ended.
use Rattle.std.specs.Prelude.{◌≡◌, ◌≢◌, ℕ, ◌+◌, ◌-◌, ◌*◌, ◌<◌, ◌≤◌, ◌⊎◌, Bool, true, false, ◌||◌, List, [], ◌∷◌, ◌++◌, length, take, map, Option, Some}
use Rattle.std.specs.Prelude.{None, is_some, slice_get, position}
use Rattle.std.specs.{List.flat_map, Io.KnownBytes.prepend_known, Io.KnownBytes.append_known, Io.KnownBytes.IsAtEnd}
use Rattle.dist_frames.specs.Stream.{bodies}
use Rattle.dist_peers.specs.declared.entry.EndId.{EndId}
use Rattle.dist_core_ends.specs.declared.{why.Why.Why, phase.Still.Still}
use Rattle.dist_core_ends.specs.declared.why.Why.TheVariants as why
use Rattle.dist_core_ends.specs.declared.phase.Still.TheVariants as still
use Rattle.dist_core.specs.{declared.event.Event.Event, declared.reply.Reply.Reply, declared.step_error.StepError.StepError, Losses.IsGone}
use Rattle.dist_core.specs.declared.event.Event.TheVariants as event
use Rattle.dist_core.specs.declared.step_error.StepError.TheVariants as error
use Rattle.dist_stream.specs.{Stream.StreamState, Turns.Rises}
use Rattle.dist_drive.specs.Desks.{Step, event_of, number_of, reply_of, last_reply, DeskFacts, IsOther}
use Rattle.dist_drive.specs.{declared.outcome.Outcome.Outcome, declared.outcome.Ending.Ending, Numbers.Gives, Numbers.DrawsAll, Numbers.DrawsOneAtMost}
use Rattle.dist_drive.specs.declared.outcome.Outcome.TheVariants as outcome
use Rattle.dist_drive.specs.declared.outcome.Ending.TheVariants as ending

-- ---- a call, as it begins, what it does, and what it leaves

-- a call as it begins
pub record Start (D W : Type 0) : Type 0 where
  -- the end that is driven
  pub end_ : EndId
  -- what is written before anything is read
  pub first : List ℕ
  -- how many reads and writes may be made
  pub limit : ℕ
  pub stream : StreamState
  pub desk : D
  pub draws : W

-- what a call does
pub record Course (W : Type 0) : Type 0 where
  -- the bytes that its reads give
  pub input : List ℕ
  -- the frames that it hands on, each with its number and its reply
  pub steps : List Step
  -- the bytes that it writes
  pub output : List ℕ
  -- how many reads and writes are left
  pub left : ℕ
  -- the source of challenges behind the last step
  pub draws : W

-- what a call leaves
pub record Finish (D W : Type 0) : Type 0 where
  pub stream : StreamState
  pub desk : D
  pub draws : W

-- ---- frames and text

-- the first list is a front of the second
abbrev pub IsFront : {X : Type 0} → List X → List X → Type 0
IsFront {X = X} front whole = (rest : List X) × (whole ≡ front ++ rest)

-- the reply brought the end up
abbrev pub is_up : Step → Bool
is_up step = is_some (reply_of step).up

-- the elements up to and with the one at this place; all, where there is no place
abbrev pub through : {X : Type 0} → Option ℕ → List X → List X
through None xs = xs
through (Some place) xs = take (place + 1) xs

-- THE FRAMES OF A CALL: the bodies of all that was read, up to and with the one whose reply brought the end up. What
-- follows that one is packets.
abbrev pub frames_of : List ℕ → List Step → List (List ℕ)
frames_of input steps = through (position is_up steps) (bodies input)

-- the next frame of a call, behind those that were handed on
abbrev pub next_frame : List ℕ → List Step → Option (List ℕ)
next_frame input steps = slice_get (frames_of input steps) (length steps)

-- the events by which they are handed on
abbrev pub events_of : EndId → List (List ℕ) → List Event
events_of end_ frames = map (event.Frame end_) frames

-- THE TEXT OF A CALL: what is written first, then what each reply sends
abbrev pub text_of : List ℕ → List Step → List ℕ
text_of first steps = first ++ flat_map (λ step. (reply_of step).say) steps

-- what a call does that writes its whole text
abbrev pub whole_course : {W : Type 0} → List ℕ → List ℕ → List Step → ℕ → W → Course W
whole_course first input steps left draws = record { input = input; steps = steps; output = text_of first steps; left = left; draws = draws }

-- ---- the ending

-- the outcome of a call that ends so
abbrev pub outcome_of : Ending → Outcome
outcome_of ending.Limit = outcome.Limit
outcome_of (ending.Shut w) = outcome.Closed w
outcome_of (ending.Gone w) = outcome.Closed w
outcome_of (ending.Fault w) = outcome.Closed w

-- All frames are handed on where the stream ended or a read failed. A write that failed, memory, the limit, a reply that
-- closed the end, and a desk that refused may leave some.
abbrev pub HandsOnAll : Ending → Type 0 → Type 0
HandsOnAll (ending.Fault why.Ended) All = All
HandsOnAll (ending.Fault why.ReadFailed) All = All
HandsOnAll other All = Unit {0}

-- The whole text is written, unless a write failed or the limit was met.
abbrev pub WritesAll : Ending → StreamState → Type 0 → Type 0
WritesAll ending.Limit new All = Unit {0}
WritesAll (ending.Fault why.WriteFailed) new All = Unit {0}
WritesAll (ending.Shut w) new All = (new.write_failed ≡ true) ⊎ All
WritesAll other new All = All

module _ {D W : Type 0} (facts : DeskFacts D) (start : Start D W) (course : Course W) (finish : Finish D W) where
  -- there is no next frame
  abbrev pub HasNoNext : Type 0
  HasNoNext = next_frame course.input course.steps ≡ None

  -- there is a next frame, and the desk refuses it so
  abbrev pub RefusesNext : StepError → Type 0
  RefusesNext error =
      (body : List ℕ) × (number : ℕ)
      × (next_frame course.input course.steps ≡ Some body)
      × facts.refusal finish.desk (event.Frame start.end_ body) number error

  -- the newest reply closed the end, for this cause
  abbrev pub ClosesEnd : Why → Type 0
  ClosesEnd w = (reply : Reply) × (last_reply course.steps ≡ Some reply) × (reply.closed ≡ Some (start.end_, w))

  -- What the ending shows. The desk that reports that the end is gone, or refuses a frame, is the one behind the last step.
  -- Where it reports that the end is gone, no frame is left.
  abbrev pub HasCause : Ending → Type 0
  HasCause ending.Limit = course.left ≡ 0
  HasCause (ending.Shut w) = ClosesEnd w
  HasCause (ending.Gone w) = (facts.standing finish.desk start.end_ (still.Gone w) × HasNoNext) ⊎ RefusesNext (error.Gone w)
  HasCause (ending.Fault why.Ended) = (finish.stream.ended ≡ true) × IsAtEnd finish.stream.unread
  HasCause (ending.Fault why.ReadFailed) = finish.stream.read_failed ≡ true
  HasCause (ending.Fault why.WriteFailed) = finish.stream.write_failed ≡ true
  HasCause (ending.Fault why.NoMemory) = Unit {0}
  HasCause (ending.Fault why.GaveUp) = (error : StepError) × IsOther error × RefusesNext error
  HasCause (ending.Fault other) = ⊥

-- the call ends since the stream has ended
abbrev pub is_of_end : Ending → Bool
is_of_end (ending.Fault why.Ended) = true
is_of_end other = false

-- the call ends since a read failed
abbrev pub is_of_failed_read : Ending → Bool
is_of_failed_read (ending.Fault why.ReadFailed) = true
is_of_failed_read other = false

-- so may a call end in which a write failed: with that fault, or with the reply that closed the end and was to be sent
abbrev pub IsOfFailedWrite : Ending → Type 0
IsOfFailedWrite (ending.Fault why.WriteFailed) = Unit {0}
IsOfFailedWrite (ending.Shut w) = Unit {0}
IsOfFailedWrite other = ⊥

-- THE MARKS OF A CALL: the ending shows which marks of the stream were not there before. So nothing is read once the stream
-- reported its end or a failed read, and nothing is read or handed on once a write failed.
pub record Marks (ending : Ending) (old new : StreamState) : Type 0 where
  -- That the stream has ended is marked where the call ends for that.
  pub ended : new.ended ≡ (is_of_end ending || old.ended)
  -- That a read failed is marked where the call ends for that.
  pub read_failed : new.read_failed ≡ (is_of_failed_read ending || old.read_failed)
  -- That a write failed is marked at most where the call may end for that.
  pub write_failed : (new.write_failed ≡ old.write_failed) ⊎ IsOfFailedWrite ending

-- No mark is set.
pub record SetsNoMark (old new : StreamState) : Type 0 where
  pub ended : new.ended ≡ old.ended
  pub read_failed : new.read_failed ≡ old.read_failed
  pub write_failed : new.write_failed ≡ old.write_failed

-- ---- an end that is gone

-- All that the desk can say of the end is that it is gone.
abbrev pub IsOnlyGone : {D : Type 0} → DeskFacts D → D → EndId → Type 0
IsOnlyGone facts desk end_ = (s : Still) → facts.standing desk end_ s → (w : Why) × (s ≡ still.Gone w)

-- The call reports that the end is gone, unless what was to be sent first could not be written.
abbrev pub EndsUnread : List ℕ → Ending → Type 0
EndsUnread first (ending.Gone w) = Unit {0}
EndsUnread first ending.Limit = first ≢ []
EndsUnread first (ending.Fault why.WriteFailed) = first ≢ []
EndsUnread first other = ⊥

-- Nothing is read, and the call ends so.
pub record LeavesUnread (first : List ℕ) (old new : StreamState) (ending : Ending) : Type 0 where
  -- No byte is read.
  pub unread : new.unread ≡ old.unread
  -- No mark of a read is set.
  pub ended : new.ended ≡ old.ended
  pub read_failed : new.read_failed ≡ old.read_failed
  -- The call reports why.
  pub ending_is : EndsUnread first ending

-- A fault of the call's own is reported to the desk as one loss with that cause, unless the desk refuses it, since the end is
-- gone or unknown by then. Nothing else is reported. The list has the steps by which it is reported.
abbrev pub ReportsLoss : {D : Type 0} → DeskFacts D → EndId → D → Ending → List Step → Type 0
ReportsLoss facts end_ desk (ending.Fault w) losses =
    ((reply : Reply) × (losses ≡ (event.Lost end_ w, 0, reply) ∷ []))
    ⊎ ((losses ≡ []) × ((e : StepError) × facts.refusal desk (event.Lost end_ w) 0 e × IsGone e))
ReportsLoss facts end_ desk other losses = losses ≡ []

-- ---- the call

module _ {D W : Type 0} (facts : DeskFacts D) (gives : Gives W) (start : Start D W) where
  -- The call does this, as its stream and its desk show.
  pub record Does (course : Course W) (stream : StreamState) (desk : D) : Type 0 where
    -- What it reads is a front of what the stream had for reads, and the rest of that is unread still.
    pub input_is : start.stream.unread ≡ prepend_known course.input stream.unread
    -- What it writes stands behind what was written before.
    pub output_is : stream.written ≡ append_known start.stream.written course.output
    -- The desk's list grows by the steps.
    pub list_is : facts.list desk ≡ facts.list start.desk ++ course.steps
    -- Each frame has a number of its own, as they are drawn.
    pub numbers : DrawsAll gives start.draws (map number_of course.steps) course.draws
    -- At most as many reads and writes are made as may be, and where the limit is returned, exactly as many.
    pub within : course.left ≤ start.limit
    pub turns : Rises (start.limit - course.left) start.stream.calls stream.calls
    -- No read gives more than 4,096 bytes.
    pub pieces : length course.input ≤ 4096 * (start.limit - course.left)

  -- What is read, handed on and written, up to the ending.
  pub record Carries (finish : Finish D W) (ending : Ending) : Type 0 where
    -- what the call does
    pub course : Course W
    pub does : Does course finish.stream finish.desk
    -- What is handed on is a front of the frames of the call, in order.
    pub events : IsFront (map event_of course.steps) (events_of start.end_ (frames_of course.input course.steps))
    -- It is all of them, where the ending says so.
    pub all_events : HandsOnAll ending (map event_of course.steps ≡ events_of start.end_ (frames_of course.input course.steps))
    -- At most one more number is drawn: for a frame that the desk refuses.
    pub draws_are : DrawsOneAtMost gives course.draws finish.draws
    -- The ending has its cause.
    pub cause : HasCause facts start course finish ending
    -- What is written is a front of the text of the call.
    pub text : IsFront course.output (text_of start.first course.steps)
    -- It is the whole text, where the ending says so.
    pub all_text : WritesAll ending finish.stream (course.output ≡ text_of start.first course.steps)
    -- Before a frame is handed on, all is written that is to be sent before it.
    pub in_turn : (i : ℕ) → i < length course.steps → IsFront (text_of start.first (take i course.steps)) course.output
    -- Once a mark is set, the call ends.
    pub marks : Marks ending start.stream finish.stream

  -- THE WHOLE CALL: up to its ending, and then the loss that is reported, at most one.
  pub record Drives (finish : Finish D W) (outcome : Outcome) : Type 0 where
    -- how it ends
    pub ending : Ending
    -- the desk before a loss is reported
    pub desk : D
    -- Up to its ending it carries frames and text.
    pub carries : Carries (record finish { desk = desk }) ending
    -- the steps by which a loss is reported
    pub losses : List Step
    -- They are of a fault of the call's own.
    pub losses_are : ReportsLoss facts start.end_ desk ending losses
    -- The desk's list grows by them.
    pub list_is : facts.list finish.desk ≡ facts.list desk ++ losses
    -- The outcome shows how it ends.
    pub outcome_is : outcome ≡ outcome_of ending
    -- The desk is asked before anything is read: of an end that is gone nothing is.
    pub gone : IsOnlyGone facts start.desk start.end_ → LeavesUnread start.first start.stream finish.stream ending
