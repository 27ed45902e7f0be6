-- What the inner steps of a call do. A reader of the public contracts needs none of it.
use Rattle.std.specs.Prelude.{◌≡◌, ℕ, ◌^◌, ◌<◌, ◌≤◌, List, length, take, Option, Result, Ok, Err, IsOk, IfOk, OnErr}
use Rattle.std.specs.Int.{w16}
use Rattle.dist_names.specs.Bytes.{number}
use Rattle.dist_frames.specs.Stream.{body_frame}
use Rattle.dist_epmd.specs.declared.epmd_error.EpmdError.{EpmdError}
use Rattle.dist_stream.specs.{declared.turn_error.TurnError.TurnError, Stream.StreamState, Turns.Says, Turns.Hears, Turns.fault_of}
use Rattle.dist_epmd_calls.specs.{declared.lookup_error.LookupError.LookupError, Asking.answer_len}
use Rattle.dist_epmd_calls.specs.declared.lookup_error.LookupError.TheVariants as error

-- Bytes were read, and this holds of them and of the fault that stopped the reading, if one did.
pub record HearsSo (old new : StreamState) (turns left : ℕ) (Means : Option TurnError → List ℕ → Type 0) : Type 0 where
  pub heard : List ℕ
  pub stop : Option TurnError
  pub hears : Hears old new turns left stop heard
  pub means : Means stop heard

-- Bytes were written, and this holds of them and of the fault that stopped the writing, if one did.
pub record SaysSo (old new : StreamState) (turns left : ℕ) (Means : Option TurnError → List ℕ → Type 0) : Type 0 where
  pub said : List ℕ
  pub stop : Option TurnError
  pub says : Says old new turns left stop said
  pub means : Means stop said

-- the frame of what is written, or why there is none
abbrev pub IsFrameOf : Result (List ℕ) LookupError → Result (List ℕ) EpmdError → Type 0
IsFrameOf (Ok frame) written = (body : List ℕ) × (written ≡ Ok body) × (frame ≡ body_frame w16 body)
IsFrameOf (Err error.Malformed) written = (why : EpmdError) × (written ≡ Err why)
IsFrameOf (Err error.NoMemory) written = IsOk written
IsFrameOf result written = ⊥

-- An answer to a registration, or a part of one, was read into the front of the buffer.
pub record HearsAnswer (old new : StreamState) (turns left : ℕ) (result : Result ℕ TurnError) (room : List ℕ) : Type 0 where
  pub heard : List ℕ
  pub hears : Hears old new turns left (fault_of result) heard
  pub most : length heard ≤ answer_len heard
  pub whole : IfOk result (λ count. (count ≤ length room) × (heard ≡ take count room) × (count ≡ answer_len heard))
  pub cut : OnErr result (length heard < answer_len heard)

-- The length of a frame was read, or a part of it.
pub record HearsLen (old new : StreamState) (turns left : ℕ) (result : Result ℕ TurnError) : Type 0 where
  pub heard : List ℕ
  pub hears : Hears old new turns left (fault_of result) heard
  pub whole : IfOk result (λ len. (heard ≡ number w16 len) × (len < 2 ^ 16))
  pub cut : OnErr result (length heard < 2)
