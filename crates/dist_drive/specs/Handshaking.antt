-- ONE HANDSHAKE: an end that is driven until it is up.
use Rattle.std.specs.{Prelude.◌≡◌, Prelude.ℕ, Prelude.List, Prelude.◌++◌, Prelude.map, Prelude.Some, List.flat_map, Int.w16}
use Rattle.dist_frames.specs.Stream.{body_frame}
use Rattle.dist_core_ends.specs.declared.known.UpRecord.{UpRecord}
use Rattle.dist_core.specs.declared.reply.Reply.{Reply}
use Rattle.dist_drive.specs.Driven.{Start, Finish, frames_of, events_of, whole_course, SetsNoMark, IsOnlyGone, Does, Drives}
use Rattle.dist_drive.specs.{declared.reached.Reached.Reached, Desks.Step, Desks.event_of, Desks.last_reply, Desks.DeskFacts, Numbers.Gives}
use Rattle.dist_drive.specs.declared.reached.Reached.TheVariants as reached

-- the newest reply brought the end up, with this record
abbrev pub IsUpWith : List Step → UpRecord → Type 0
IsUpWith list kept = (reply : Reply) × (last_reply list ≡ Some reply) × (reply.up ≡ Some kept)

module _ {D W : Type 0} (facts : DeskFacts D) (gives : Gives W) (start : Start D W) (finish : Finish D W) where
  -- The end comes up, with this record. What is read is the frames that are handed on, and then the rest.
  pub record ComesUp (kept : UpRecord) (rest : List ℕ) : Type 0 where
    pub frames : List (List ℕ)
    -- their steps, each with its number and its reply
    pub steps : List Step
    pub left : ℕ
    -- No byte that is read is lost, no number is drawn for more, and all that is to be sent is written.
    pub does : Does facts gives start (whole_course start.first (flat_map (body_frame w16) frames ++ rest) steps left finish.draws) finish.stream finish.desk
    -- The frames are those of the call, up to and with the one whose reply brings the end up.
    pub frames_are : frames ≡ frames_of (flat_map (body_frame w16) frames ++ rest) steps
    pub events : map event_of steps ≡ events_of start.end_ frames
    -- The newest reply has the record.
    pub up : IsUpWith (facts.list finish.desk) kept
    pub marks : SetsNoMark start.stream finish.stream
    -- The desk is asked before anything is read: an end that is gone does not come up.
    pub open_ : IsOnlyGone facts start.desk start.end_ → ⊥

  -- THE WHOLE CALL: up to the frame that brings the end up, or ended as a driven call ends.
  abbrev pub ShakesHands : Reached → Type 0
  ShakesHands (reached.Up kept rest) = ComesUp kept rest.items
  ShakesHands (reached.Ended outcome) = Drives facts gives start finish outcome
