-- A WHOLE CAPTURE: its attempts, each judged by its conversation; what is printed of them; and the exit status.
use Rattle.std.specs.Prelude.{◌≡◌, ◌⊎◌, ℕ, Bool, true, false, ◌==◌, if◌then◌else◌, List, [], ◌∷◌, ◌++◌, map, slice_get, Option, Some, None, Ok, IfSome}
use Rattle.std.specs.{Borrow.Bor, List.All, List.FoldsTo, Option.ok_or}
use Rattle.dist_capture.specs.{Reading.Reading, Reading.Was, Reading.is_cut_off, Reading.view_of, Reading.whole, declared.segment.Segment.Segment}
use Rattle.dist_messages.specs.declared.message.Side.{TheVariants.Dialler}
use Rattle.dist_talk.specs.declared.terms.Terms.{Terms}
use Rattle.dist_talk.specs.declared.terms.Viewpoint.TheVariants as viewpoint
use Rattle.dist_talk.specs.declared.verdict.NoCookie.TheVariants as without
use Rattle.dist_talk.specs.{Words.status_of, declared.verdict.HandshakeVerdict.HandshakeVerdict}
use Rattle.distping_report.specs.Sinks.{SinkState}
use Rattle.dist_conversation.specs.Conversations.{IsBetween, IsConversation, begun, ended_or}
use Rattle.dist_conversation.specs.Verdicts.{CarriesAtEnd, IsDueAs, name_said, verdict_on}
use Rattle.dist_conversation.specs.declared.{carried.Conclusion.Conclusion, conversation.Conversation.Conversation, judge.OtherEnd.OtherEnd}
use Rattle.distping_capture.specs.Crossings.{Meets}
use Rattle.distping_capture.specs.Printing.{PrintsOne, PrintsOutcome, PrintsText}
use Rattle.distping_capture.specs.declared.{connections.CapturedConnection.CapturedConnection, dials.PastDial.PastDial}
use Rattle.distping_capture.specs.declared.connections.CapturedConnections.{CapturedConnections}
use Rattle.distping_capture.specs.declared.{journal.CaptureJournal.CaptureJournal, left_out.PacketsLeftOut.PacketsLeftOut}

-- some of these segments, in their order
pub data IsPart : List Segment → List Segment → Type 0 where
  NoPart : IsPart [] []
  Shares : (part all : List Segment) (s : Segment) → IsPart part all → IsPart (s ∷ part) (s ∷ all)
  Leaves : (part all : List Segment) (s : Segment) → IsPart part all → IsPart part (s ∷ all)

-- A CONVERSATION OF A CAPTURE: that of some of its segments, all of them between its two ports
pub record IsOf (port : ℕ) (segments : List Segment) (c : Conversation) : Type 0 where
  pub talk : List Segment
  pub part : IsPart talk segments
  pub between : All (IsBetween c) talk
  pub is : IsConversation port talk c

-- it was due when it was judged, or at its end, of which this is the time
abbrev pub IsWhen : Terms → Conversation → ℕ → Conclusion → Type 0
IsWhen t c now j = IsDueAs c.shown t c j.carried ⊎ ((other : OtherEnd) × CarriesAtEnd t other c now j.carried)

-- THIS CONVERSATION WAS JUDGED SO: what it carried is what its segments show; and the verdict is that on what it carried.
pub record IsJudged (t : Terms) (port : ℕ) (segments : List Segment) (c : Conversation) (now : ℕ) (j : Conclusion) : Type 0 where
  pub of : IsOf port segments c
  pub carried : IsWhen t c now j
  pub verdict : j.verdict ≡ verdict_on t c.is_at_mapper j.carried

-- a conversation was given this verdict
pub record IsGiven (t : Terms) (port : ℕ) (segments : List Segment) (v : HandshakeVerdict) : Type 0 where
  pub seen : Conversation
  pub now : ℕ
  pub judged : Conclusion
  pub is : IsJudged t port segments seen now judged
  pub verdict : judged.verdict ≡ Some v

-- AN ATTEMPT of this conversation, which came up or ended by this time: it has the name that was said, and counts by the verdict's status
pub record IsAttempt (c : Conversation) (now : ℕ) (j : Conclusion) (attempt : PastDial) : Type 0 where
  pub verdict : j.verdict ≡ Some attempt.verdict
  pub exit : attempt.exit ≡ status_of attempt.verdict
  pub name : attempt.name ≡ name_said Dialler j.carried
  pub between : (attempt.dialler ≡ c.dialler) × (attempt.acceptor ≡ c.acceptor)
  pub times : (attempt.began ≡ c.began) × (attempt.ended ≡ ended_or c now)

-- THE ATTEMPTS OF A CAPTURE, each judged, and added behind those before it: of two that cross, the one that gave way counts no more
pub data History (t : Terms) (port : ℕ) (segments : List Segment) : List PastDial → Type 0 where
  NoAttempt : History t port segments []
  NextAttempt : (earlier before : List PastDial) → History t port segments (earlier ++ before) → (attempt : PastDial)
      → (c : Conversation) (now : ℕ) (j : Conclusion) → IsJudged t port segments c now j → IsAttempt c now j attempt
      → (left : PastDial) (others : List PastDial) → Meets attempt before left others → History t port segments (earlier ++ (others ++ left ∷ []))

-- THE EXIT STATUS: the first that is not 0 of the attempts; 12 if nothing was found
abbrev pub first_exit : List PastDial → ℕ
first_exit [] = 0
first_exit (dial ∷ rest) = if dial.exit == 0 then first_exit rest else dial.exit

abbrev pub exit_of : Bool → List PastDial → ℕ
exit_of found attempts = if found then first_exit attempts else 12

-- WHAT IS PRINTED OF THE ATTEMPTS: the text of the verdict of each, in their order; or with `--json` objects, each of a verdict that was given
abbrev pub verdicts_of : List PastDial → List HandshakeVerdict
verdicts_of attempts = map (λ a. a.verdict) attempts

abbrev pub PrintsAll : Bool → Terms → ℕ → List Segment → List PastDial → SinkState → SinkState → Type 0
PrintsAll false t port segments attempts old new = FoldsTo (λ a v b. PrintsText v a b) old (verdicts_of attempts) new
PrintsAll true t port segments attempts old new =
    (verdicts : List HandshakeVerdict) × All (IsGiven t port segments) verdicts × FoldsTo (λ a v b. PrintsOne v a b) old verdicts new

-- what the handshakes of a capture are judged by: a cookie, if one is known
abbrev pub terms_of : Option (Bor (List ℕ)) → Terms
terms_of cookie = record { viewpoint = viewpoint.Capture; target = None; cookie = ok_or cookie without.Missing }

-- A CAPTURE OF THESE BYTES ENDED WITH THIS STATUS, AND THIS WAS PRINTED OF ITS VERDICTS, with `--json` or without: they have these segments and no other
-- one that is whole
pub record EndsWith (t : Terms) (port : ℕ) (json : Bool) (bytes : List ℕ) (old new : SinkState) (status : ℕ) : Type 0 where
  pub segments : List Segment
  pub reading : Reading
  pub was : Was reading bytes (map view_of segments)
  pub no_more : whole reading ≡ Ok None
  pub attempts : List PastDial
  pub history : History t port segments attempts
  pub found : Bool
  pub nothing : found ≡ false → attempts ≡ []
  pub exit : status ≡ exit_of found attempts
  pub printed : SinkState
  pub verdicts : PrintsAll json t port segments attempts old printed
  pub left_out : PacketsLeftOut
  pub counted : (left_out.counts ≡ reading.counts) × (left_out.is_cut_off ≡ is_cut_off reading)
  pub outcome : PrintsOutcome json found left_out status printed new

-- ---- what is remembered

module _ {W : Type 0} where
  -- THE JOURNAL STANDS FOR THESE ATTEMPTS: the latest are remembered, of the earlier ones the first status that is not 0
  pub record StandsFor (r : CaptureJournal W) (attempts : List PastDial) : Type 0 where
    pub earlier : List PastDial
    pub all : attempts ≡ earlier ++ r.dials.items
    pub status : r.status ≡ first_exit earlier
    pub nothing : r.has_found ≡ false → attempts ≡ []

  abbrev pub exit_now : CaptureJournal W → ℕ
  exit_now r = if r.has_found then (if r.status == 0 then first_exit r.dials.items else r.status) else 12

  -- an attempt was added; of it and of those that are remembered the ones count no more that gave way to another
  pub record Adds (attempt : PastDial) (r s : CaptureJournal W) : Type 0 where
    pub left : PastDial
    pub others : List PastDial
    pub meets : Meets attempt r.dials.items left others
    pub adds : (earlier : List PastDial) → r.status ≡ first_exit earlier → StandsFor s (earlier ++ (others ++ left ∷ []))
    pub same : (s.results ≡ r.results) × (s.terms ≡ r.terms) × (s.lines ≡ r.lines)

  -- the same of a conversation that was judged so
  pub record AddsOf (c : Conversation) (now : ℕ) (j : Conclusion) (r s : CaptureJournal W) : Type 0 where
    pub attempt : PastDial
    pub is : IsAttempt c now j attempt
    pub adds : Adds attempt r s

  -- THE JOURNAL HAS ALL ATTEMPTS of these segments that were judged, and all verdicts were printed that were due
  pub record Keeps (t : Terms) (port : ℕ) (segments : List Segment) (json : Bool) (old : SinkState) (r : CaptureJournal W) : Type 0 where
    pub terms : r.terms ≡ t
    pub quiet : r.lines.quiet ≡ json
    pub attempts : List PastDial
    pub history : History t port segments attempts
    pub stands : StandsFor r attempts
    pub printed : PrintsAll json t port segments attempts old r.results

  -- it goes on so, of the same segments
  abbrev pub GoesOn : CaptureJournal W → CaptureJournal W → Type 0
  GoesOn r s = (t : Terms) (port : ℕ) (segments : List Segment) (json : Bool) (old : SinkState)
      → Keeps t port segments json old r → Keeps t port segments json old s

  -- the same, if this conversation was judged so; or if this verdict was given
  abbrev pub GoesOnBy : Conversation → ℕ → Conclusion → CaptureJournal W → CaptureJournal W → Type 0
  GoesOnBy c now j r s = (t : Terms) (port : ℕ) (segments : List Segment) (json : Bool) (old : SinkState)
      → IsJudged t port segments c now j → Keeps t port segments json old r → Keeps t port segments json old s

  abbrev pub GoesOnOf : Option HandshakeVerdict → CaptureJournal W → CaptureJournal W → Type 0
  GoesOnOf given r s = (t : Terms) (port : ℕ) (segments : List Segment) (json : Bool) (old : SinkState)
      → IfSome given (IsGiven t port segments) → Keeps t port segments json old r → Keeps t port segments json old s

-- ---- connections

-- a conversation of these segments; or one of no segment yet, which this one begins
abbrev pub IsOfOrNew : ℕ → List Segment → Segment → Conversation → Type 0
IsOfOrNew port segments s c = IsOf port segments c ⊎ (c ≡ begun port s)

-- A CONNECTION IS FOLLOWED: until it is judged it is a conversation of these segments; then its verdict was given
pub record Follows (t : Terms) (port : ℕ) (segments : List Segment) (c : CapturedConnection) : Type 0 where
  pub open_ : c.judged ≡ None → c.is_over ≡ false → IsOf port segments c.seen
  pub given : IfSome c.judged (λ j. IfSome j.verdict (IsGiven t port segments))

-- the same of one that this segment may begin
pub record Awaits (t : Terms) (port : ℕ) (segments : List Segment) (s : Segment) (c : CapturedConnection) : Type 0 where
  pub between : IsBetween c.seen s
  pub open_ : c.judged ≡ None → c.is_over ≡ false → IsOfOrNew port segments s c.seen
  pub given : IfSome c.judged (λ j. IfSome j.verdict (IsGiven t port segments))

module _ {W : Type 0} where
  -- what is followed, and what the journal has
  pub record Has (t : Terms) (port : ℕ) (segments : List Segment) (json : Bool) (old : SinkState) (r : CaptureJournal W) (c : CapturedConnection) : Type 0 where
    pub keeps : Keeps t port segments json old r
    pub follows : Follows t port segments c

  -- a connection ends
  abbrev pub Ends : CapturedConnection → CapturedConnection → CaptureJournal W → CaptureJournal W → Type 0
  Ends c e r s = (t : Terms) (port : ℕ) (segments : List Segment) (json : Bool) (old : SinkState)
      → Follows t port segments c → Keeps t port segments json old r → Has t port segments json old s e

  -- it ends if this segment begins another one between the same ports
  abbrev pub Renews : Segment → ℕ → CapturedConnection → CapturedConnection → CaptureJournal W → CaptureJournal W → Type 0
  Renews next port c e r s = (t : Terms) (segments : List Segment) (json : Bool) (old : SinkState)
      → IsBetween c.seen next → Follows t port segments c → Keeps t port segments json old r
      → Keeps t port segments json old s × Awaits t port segments next e

  -- it takes a segment
  abbrev pub TakesNext : Segment → CapturedConnection → CapturedConnection → CaptureJournal W → CaptureJournal W → Type 0
  TakesNext next c e r s = (t : Terms) (port : ℕ) (segments : List Segment) (json : Bool) (old : SinkState)
      → Awaits t port segments next c → Keeps t port segments json old r → Has t port (segments ++ next ∷ []) json old s e

  -- ALL CONNECTIONS ARE FOLLOWED
  pub record FollowsAll (t : Terms) (port : ℕ) (segments : List Segment) (json : Bool) (old : SinkState) (f : CapturedConnections W) : Type 0 where
    pub port_is : f.mapper_port ≡ port
    pub keeps : Keeps t port segments json old f.journal
    pub each : All (λ b. Follows t port segments b.value) f.connections.items

  -- the connection at this place is between the two ports of this segment
  abbrev pub IsPlaceOf : Segment → CapturedConnections W → ℕ → Type 0
  IsPlaceOf s f place = IfSome (slice_get f.connections.items place) (λ b. IsBetween b.value.seen s)

  abbrev pub GoesOnAll : CapturedConnections W → CapturedConnections W → Type 0
  GoesOnAll f g = (t : Terms) (port : ℕ) (segments : List Segment) (json : Bool) (old : SinkState)
      → FollowsAll t port segments json old f → FollowsAll t port segments json old g

  abbrev pub TakesInAll : Segment → CapturedConnections W → CapturedConnections W → Type 0
  TakesInAll next f g = (t : Terms) (port : ℕ) (segments : List Segment) (json : Bool) (old : SinkState)
      → FollowsAll t port segments json old f → FollowsAll t port (segments ++ next ∷ []) json old g

  -- ---- the reader

  -- of these bytes, which were read, all segments were taken that the reader returned
  pub record IsAt (t : Terms) (port : ℕ) (json : Bool) (old : SinkState) (stream : List ℕ) (reading : Reading) (f : CapturedConnections W) : Type 0 where
    pub segments : List Segment
    pub was : Was reading stream (map view_of segments)
    pub follows : FollowsAll t port segments json old f

  -- segments were taken
  abbrev pub TakesIn : Reading → CapturedConnections W → Reading → CapturedConnections W → Type 0
  TakesIn r f s g = (t : Terms) (port : ℕ) (json : Bool) (old : SinkState) (stream : List ℕ)
      → IsAt t port json old stream r f → IsAt t port json old stream s g

  -- these bytes were read, and segments taken
  abbrev pub ReadsIn : List ℕ → Reading → CapturedConnections W → Reading → CapturedConnections W → Type 0
  ReadsIn bytes r f s g = (t : Terms) (port : ℕ) (json : Bool) (old : SinkState) (stream : List ℕ)
      → IsAt t port json old stream r f → IsAt t port json old (stream ++ bytes) s g

  -- THE EXIT STATUS OF ALL, and what is printed at the end
  pub record Finishes (left_out : PacketsLeftOut) (status : ℕ) (r : CaptureJournal W) (printed : SinkState) : Type 0 where
    pub exit : status ≡ exit_now r
    pub outcome : PrintsOutcome r.lines.quiet r.has_found left_out status r.results printed

  abbrev pub EndsAll : PacketsLeftOut → ℕ → CapturedConnections W → SinkState → Type 0
  EndsAll left_out status f printed = (r : CaptureJournal W) × Finishes left_out status r printed
      × ((t : Terms) (port : ℕ) (segments : List Segment) (json : Bool) (old : SinkState)
      → FollowsAll t port segments json old f → Keeps t port segments json old r)

-- these are all bytes that a reader had, where those are known
abbrev pub AreAll : Option (List ℕ) → List ℕ → Type 0
AreAll known bytes = IfSome known (λ all. bytes ≡ all)
