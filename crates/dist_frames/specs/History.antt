-- The calls of a reader so far, and what it returned.
use Rattle.std.specs.Prelude.{◌≡◌, ℕ, ◌-◌, List, [], ◌∷◌, ◌++◌, length, drop, option_to_list}
use Rattle.std.specs.{List.flat_map, List.AllByRecursion, Int.w16}
pub use Rattle.dist_names.specs.Bytes.{IsBytes}
use Rattle.dist_frames.specs.Stream.{body_frame, FitsWidth, bodies, packets, partial}
use Rattle.dist_frames.specs.Reader.{Reader, Short, Linked, capped_count, with_bytes, next_body, without_next, as_linked, without_count}

-- a call that succeeded; Take moves the next body out or drops it
pub data Call : Type 0 where
  Feed : List ℕ → Call
  Take : Call
  Link : Call
  Skip : Call

-- a reader, what was asked of it and what it returned until now
pub record Seen : Type 0 where
  pub reader : Reader
  -- all bytes that were fed
  pub stream : List ℕ
  -- the bodies that were moved out
  pub moved : List (List ℕ)
  -- how many packets had ended when they were last reported
  pub before : ℕ

-- a new reader, to which nothing came
abbrev pub opening : Seen
opening = record { reader = Short []; stream = []; moved = []; before = 0 }

-- the bytes that were not moved out
abbrev pub rest_of_stream : Seen → List ℕ
rest_of_stream s = drop (length (flat_map (body_frame w16) s.moved)) s.stream

-- The bytes that came are the frames of the bodies moved out, and then those that are pending.
pub record Accounts (stream : List ℕ) (moved : List (List ℕ)) (pending : List ℕ) : Type 0 where
  pub whole : stream ≡ flat_map (body_frame w16) moved ++ pending
  pub fit : AllByRecursion (FitsWidth w16) moved
  pub bytes : IsBytes pending

-- how many packets have ended by now, where the reader reports that number
abbrev pub ended_by_now : Reader → Seen → ℕ
ended_by_now (Short pending) s = s.before
ended_by_now (Linked ended rest) s = packets (rest_of_stream s)

-- the same after one more call
abbrev pub after_call : Seen → Call → Seen
after_call s (Feed piece) = record s { reader = with_bytes s.reader piece; stream = s.stream ++ piece }
after_call s Take = record s { reader = without_next s.reader; moved = s.moved ++ option_to_list (next_body s.reader) }
after_call s Link = record s { reader = as_linked s.reader }
after_call s Skip = record s { reader = without_count s.reader; before = ended_by_now s.reader s }

-- the same after these calls in turn
abbrev pub after_all : Seen → List Call → Seen
after_all s [] = s
after_all s (call ∷ calls) = after_all (after_call s call) calls

-- the pieces are bytes
abbrev pub FeedBytes : List Call → Type 0
FeedBytes [] = Unit {0}
FeedBytes (Feed piece ∷ calls) = IsBytes piece × FeedBytes calls
FeedBytes (call ∷ calls) = FeedBytes calls

-- THE READER IS RIGHT: until it is linked, the bodies moved out and those still to come are those of the stream; then the
-- packets not yet reported are those that ended since the last report, in all bytes behind the bodies moved out
abbrev pub IsRight : Reader → Seen → Type 0
IsRight (Short pending) s = s.moved ++ bodies pending ≡ bodies s.stream
IsRight (Linked ended rest) s = (more : List ℕ) × (s.stream ≡ flat_map (body_frame w16) s.moved ++ more) × (ended ≡ capped_count (packets more - s.before))

-- NO BYTE IS LOST: the bytes fed are the frames of the bodies moved out, and then the bytes that the reader holds or,
-- once it is linked, the stream of packets whose rest it keeps
abbrev pub LosesNothing : Reader → Seen → Type 0
LosesNothing (Short pending) s = Accounts s.stream s.moved pending
LosesNothing (Linked ended rest) s = (more : List ℕ) × Accounts s.stream s.moved more × (rest ≡ partial more)
