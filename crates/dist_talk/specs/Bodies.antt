-- One frame that is read where what comes may not be a frame at all.
use Rattle.std.specs.Prelude.{◌≡◌, ℕ, ◌+◌, ◌^◌, ◌<◌, ◌⊎◌, Bool, true, false, ◌==◌, List, [], ◌∷◌, ◌++◌, length}
use Rattle.std.specs.Prelude.{IfErr, OnOk, Option, Some, None, Result, Ok, Err}
use Rattle.std.specs.{List.list_any, Int.w16}
use Rattle.dist_names.specs.Bytes.{number}
use Rattle.dist_frames.specs.Stream.{body_frame, first_body}
use Rattle.dist_messages.specs.declared.message.Side.{Side, TheVariants.Dialler, TheVariants.Acceptor}
use Rattle.dist_stream.specs.{Stream.StreamState, Turns.Hears, declared.turn_error.TurnError.TurnError}
use Rattle.dist_epmd_calls.specs.Serving.{IsInside}
use Rattle.dist_talk.specs.declared.bodies.{Came.Came, NextBody.NextBody}
use Rattle.dist_talk.specs.declared.bodies.Came.TheVariants as came
use Rattle.dist_talk.specs.declared.bodies.NextBody.TheVariants as next

-- the tags of a side's messages: name in both forms, status, complement, reply; status, challenge in both forms, acknowledgement
abbrev pub tags_of : Side → List ℕ
tags_of Dialler = 0x6e ∷ 0x4e ∷ 0x73 ∷ 0x63 ∷ 0x72 ∷ []
tags_of Acceptor = 0x73 ∷ 0x6e ∷ 0x4e ∷ 0x61 ∷ []

-- the byte is one of these
abbrev pub is_one_of : List ℕ → ℕ → Bool
is_one_of tags byte = list_any (λ tag. tag == byte) tags

-- one of these tags begins the body
abbrev pub begins_with_one : List ℕ → List ℕ → Bool
begins_with_one tags [] = false
begins_with_one tags (first ∷ rest) = is_one_of tags first

-- The body is empty, or one of these tags begins it.
abbrev pub IsBodyOf : List ℕ → List ℕ → Type 0
IsBodyOf tags body = (body ≡ []) ⊎ (begins_with_one tags body ≡ true)

-- the fault of the stream, if one ended the reading
abbrev pub stop_of : Came → Option TurnError
stop_of (came.Stopped fault count) = Some fault
stop_of other = None

-- What came in these bytes, where a length counts only if one of these tags begins the body: the frame of the body; a length
-- and one byte that is none of the tags; a part of a frame, of this many bytes.
abbrev pub IsCameOf : List ℕ → Came → List ℕ → Type 0
IsCameOf tags (came.Body body) heard = (heard ≡ body_frame w16 body) × IsBodyOf tags body
IsCameOf tags (came.Front len) heard = (first : ℕ) × (heard ≡ number w16 len ++ first ∷ []) × (is_one_of tags first ≡ false)
IsCameOf tags (came.Stopped fault count) heard = IsInside heard × (length heard ≡ count)
IsCameOf tags came.NoMemory heard = Unit {0}

-- These bytes came, nothing was written, and this holds of the bytes.
pub record HearsAs (old new : StreamState) (turns left : ℕ) (stop : Option TurnError) (holds : List ℕ → Type 0) : Type 0 where
  pub heard : List ℕ
  pub hears : Hears old new turns left stop heard
  pub means : holds heard

-- ONE FRAME WAS READ, whose length counts only before one of these tags, or this is why none was, within the turns that were there;
-- nothing was written.
abbrev pub HearsFrameOf : StreamState → StreamState → ℕ → ℕ → List ℕ → Came → Type 0
HearsFrameOf old new turns left tags c = HearsAs old new turns left (stop_of c) (IsCameOf tags c)

-- These bytes begin with a length that counts for nothing: it is not 0, and the byte behind it is none of these tags.
abbrev pub BeginsForeign : List ℕ → ℕ → List ℕ → Type 0
BeginsForeign tags len bytes =
    (first : ℕ) × (more : List ℕ)
    × (bytes ≡ number w16 len ++ first ∷ more) × (0 < len) × (len < 2 ^ 16) × (is_one_of tags first ≡ false)

-- WHAT STANDS FIRST in these bytes of a side: a whole frame, of this body; a length that counts for nothing; or neither yet.
abbrev pub StandsFirst : Side → List ℕ → NextBody → Type 0
StandsFirst side bytes (next.Whole body) = (first_body w16 bytes ≡ Some body.now) × IsBodyOf (tags_of side) body.now
StandsFirst side bytes (next.Front len) = BeginsForeign (tags_of side) len bytes
StandsFirst side bytes next.Open = (first_body w16 bytes ≡ None) × ((len : ℕ) → BeginsForeign (tags_of side) len bytes → ⊥)

-- ---- the inner steps

-- why a buffer was not filled, where it was not
abbrev pub stop_in : Result (Unit {0}) (TurnError × ℕ) → Option TurnError
stop_in (Ok done) = None
stop_in (Err stop) = Some stop.0

-- A buffer was filled, or this many bytes of it came.
abbrev pub Fills : StreamState → StreamState → ℕ → ℕ → Result (Unit {0}) (TurnError × ℕ) → List ℕ → Type 0
Fills old new turns left result room =
    HearsAs old new turns left (stop_in result) (λ heard. OnOk result (heard ≡ room) × IfErr result (λ stop. length heard ≡ stop.1))

-- What came behind a length: a body of this many bytes that one of these tags begins; one byte that is none
-- of them; fewer bytes than that. Two bytes of the frame came before.
abbrev pub IsBehind : ℕ → List ℕ → Came → List ℕ → Type 0
IsBehind len tags (came.Body body) heard = (heard ≡ body) × (length body ≡ len) × (begins_with_one tags body ≡ true)
IsBehind len tags (came.Front n) heard = (n ≡ len) × ((first : ℕ) × (heard ≡ first ∷ []) × (is_one_of tags first ≡ false))
IsBehind len tags (came.Stopped fault count) heard = (length heard < len) × (2 + length heard ≡ count)
IsBehind len tags came.NoMemory heard = Unit {0}

-- the same, and which bytes they were
abbrev pub HearsBehind : StreamState → StreamState → ℕ → ℕ → ℕ → List ℕ → Came → Type 0
HearsBehind old new turns left len tags c = HearsAs old new turns left (stop_of c) (IsBehind len tags c)
