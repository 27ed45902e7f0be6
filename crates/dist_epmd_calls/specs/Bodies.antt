-- One frame that is read from a stream: its length in 2 bytes, and as many bytes.
use Rattle.std.specs.{Prelude.◌≡◌, Prelude.ℕ, Prelude.◌<◌, Prelude.◌≤◌, Prelude.List, Prelude.length, Prelude.Option, Prelude.Some, Prelude.None, Int.w16}
use Rattle.dist_names.specs.Bytes.{number}
use Rattle.dist_frames.specs.Stream.{body_frame}
use Rattle.dist_stream.specs.{Stream.StreamState, Turns.Hears, declared.turn_error.TurnError.TurnError}
use Rattle.dist_epmd_calls.specs.{Serving.IsInside, Serving.IsLength, declared.bodies.Arrived.Arrived}
use Rattle.dist_epmd_calls.specs.declared.bodies.Arrived.TheVariants as arrived

-- the fault of the stream, if one ended the reading
abbrev pub stop_of : Arrived → Option TurnError
stop_of (arrived.Stopped fault) = Some fault
stop_of other = None

-- What came in these bytes, where a body has at most this many bytes: the frame of the body, a length above that, a
-- part of a frame, or only the length of one.
abbrev pub IsArrived : ℕ → Arrived → List ℕ → Type 0
IsArrived most (arrived.Body body) heard = (heard ≡ body_frame w16 body) × (length body ≤ most)
IsArrived most (arrived.Long len) heard = (heard ≡ number w16 len) × (most < len)
IsArrived most (arrived.Stopped fault) heard = IsInside heard
IsArrived most arrived.NoMemory heard = IsLength heard

-- ONE FRAME WAS READ, or this is why none was, within the turns that were there; nothing was written.
pub record HearsFrame (old new : StreamState) (turns left most : ℕ) (a : Arrived) : Type 0 where
  pub heard : List ℕ
  pub hears : Hears old new turns left (stop_of a) heard
  pub means : IsArrived most a heard
