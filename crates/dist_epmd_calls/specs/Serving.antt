-- What is read and written when one request is served, and what becomes of the mapper.
use Rattle.std.specs.Prelude.{◌≡◌, ◌≢◌, ℕ, ◌^◌, ◌<◌, ◌⊎◌, List, [], ◌++◌, length, Option, Some, None, Result, Ok, Err, IsOk, IsErr, ◌==◌, if◌then◌else◌}
use Rattle.std.specs.{Int.w16, Io.KnownBytes.prepend_known, Io.KnownBytes.append_known}
use Rattle.dist_names.specs.Bytes.{number}
use Rattle.dist_frames.specs.Stream.{body_frame}
use Rattle.dist_epmd.specs.{Layout.written_answer, Reading.read_request}
use Rattle.dist_epmd.specs.declared.{epmd_error.EpmdError.EpmdError, message.Request.Request, message.Answer.Answer}
use Rattle.dist_epmd.specs.declared.message.Request.TheVariants as request
use Rattle.dist_epmd.specs.declared.message.Answer.TheVariants as answer
use Rattle.dist_stream.specs.{declared.turn_error.TurnError.TurnError, Stream.StreamState, Turns.Spends}
use Rattle.dist_epmd_calls.specs.{declared.lookup_error.LookupError.LookupError, declared.serve.Served.Served, Refusals.lookup_error}
use Rattle.dist_epmd_calls.specs.declared.lookup_error.LookupError.TheVariants as error
use Rattle.dist_epmd_calls.specs.declared.serve.Served.TheVariants as served

-- ---- the request

-- The bytes are the frame of this request.
pub record BringsRequest (heard : List ℕ) (request : Request) : Type 0 where
  pub body : List ℕ
  pub framed : heard ≡ body_frame w16 body
  pub read : read_request body ≡ Ok request

-- The bytes are a frame, but not of a request.
pub record BringsNone (heard : List ℕ) : Type 0 where
  pub body : List ℕ
  pub framed : heard ≡ body_frame w16 body
  pub read : IsErr (read_request body)

-- The bytes end inside a frame: in its length, or before as many bytes came as the length says.
abbrev pub IsInside : List ℕ → Type 0
IsInside heard = (length heard < 2) ⊎ ((len : ℕ) × (rest : List ℕ) × (len < 2 ^ 16) × (heard ≡ number w16 len ++ rest) × (length rest < len))

-- The bytes are only the length of a frame.
abbrev pub IsLength : List ℕ → Type 0
IsLength heard = (len : ℕ) × (len < 2 ^ 16) × (heard ≡ number w16 len)

-- What the bytes that came ask for, or why no request came: a fault of the stream inside a frame; or,
-- without a fault, a frame that asks for nothing, or memory that ran out behind the length of a frame, or behind a request.
abbrev pub Came : Option TurnError → Result Request LookupError → List ℕ → Type 0
Came (Some fault) result heard = (result ≡ Err (lookup_error fault)) × IsInside heard
Came None (Ok request) heard = BringsRequest heard request
Came None (Err error.Malformed) heard = BringsNone heard
Came None (Err error.NoMemory) heard = IsLength heard ⊎ ((body : List ℕ) × (heard ≡ body_frame w16 body) × IsOk (read_request body))
Came None (Err other) heard = ⊥

-- ---- the answer

-- A first part of the answer's bytes was written, but not all.
pub record SaysPart (written : Result (List ℕ) EpmdError) (said : List ℕ) : Type 0 where
  pub text : List ℕ
  pub unsaid : List ℕ
  pub bytes : written ≡ Ok text
  pub front : text ≡ said ++ unsaid
  pub lacks : unsaid ≢ []

-- What was written of an answer: a part, and the fault of the stream is returned; or all; or nothing, since memory ran out or
-- the answer has no bytes.
abbrev pub IsSaid : Option TurnError → Result (List ℕ) EpmdError → Result (Unit {0}) LookupError → List ℕ → Type 0
IsSaid (Some fault) written result said = (result ≡ Err (lookup_error fault)) × SaysPart written said
IsSaid None written (Ok done) said = written ≡ Ok said
IsSaid None written (Err error.Malformed) said = IsErr written × (said ≡ [])
IsSaid None written (Err error.NoMemory) said = IsOk written × (said ≡ [])
IsSaid None written (Err other) said = ⊥

-- ---- the mapper

-- whether a registration was answered with result 0
abbrev pub served_as : Request → Answer → Served
served_as (request.Alive info) (answer.AliveX code creation) = if code == 0 then served.Registered else served.Answered
served_as (request.Alive info) (answer.Alive code creation) = if code == 0 then served.Registered else served.Answered
served_as other given = served.Answered

-- After an answer that wasn't written whole, the connection of a registration counts as closed.
abbrev pub AfterCut : {M : Type 0} → (M → ℕ → M → Type 0) → Request → ℕ → M → M → Type 0
AfterCut leaves (request.Alive info) conn between after = leaves between conn after
AfterCut leaves other conn between after = after ≡ between

-- The mapper answered, and its answer was written whole.
pub record AnswersWhole {M : Type 0} (allows : M → ℕ → Request → Answer → M → Type 0) (conn : ℕ) (before after : M)
    (request : Request) (stop : Option TurnError) (how : Served) (said : List ℕ) : Type 0 where
  pub answer : Answer
  pub allowed : allows before conn request answer after
  pub text : written_answer answer ≡ Ok said
  pub fine : stop ≡ None
  pub how_is : how ≡ served_as request answer

-- The mapper answered, and its answer was written only in part or not at all.
pub record AnswersCut {M : Type 0} (allows : M → ℕ → Request → Answer → M → Type 0) (leaves : M → ℕ → M → Type 0) (conn : ℕ)
    (before after : M) (request : Request) (stop : Option TurnError) (why : LookupError) (said : List ℕ) : Type 0 where
  pub answer : Answer
  pub between : M
  pub allowed : allows before conn request answer between
  pub part : IsSaid stop (written_answer answer) (Err why) said
  pub closed : AfterCut leaves request conn between after

-- What becomes of a request that came. Where the mapper has no memory to answer, it is unchanged, and nothing is written.
abbrev pub Replies : {M : Type 0} → (M → ℕ → Request → Answer → M → Type 0) → (M → ℕ → M → Type 0)
    → ℕ → M → M → Request → Option TurnError → Result Served LookupError → List ℕ → Type 0
Replies allows leaves conn before after request stop (Ok how) said = AnswersWhole allows conn before after request stop how said
Replies allows leaves conn before after request stop (Err why) said =
    ((why ≡ error.NoMemory) × (stop ≡ None) × (said ≡ []) × (after ≡ before)) ⊎ AnswersCut allows leaves conn before after request stop why said

-- ---- the whole

-- No request came. The mapper is unchanged, and nothing is written.
pub record Unrequested {M : Type 0} (before after : M) (stop : Option TurnError) (result : Result Served LookupError) (said heard : List ℕ) : Type 0 where
  pub why : LookupError
  pub result_is : result ≡ Err why
  pub came : Came stop (Err why) heard
  pub nothing : said ≡ []
  pub same : after ≡ before

-- One request that came was answered, or the call was refused before that.
pub record Requested {M : Type 0} (allows : M → ℕ → Request → Answer → M → Type 0) (leaves : M → ℕ → M → Type 0) (conn : ℕ)
    (before after : M) (stop : Option TurnError) (result : Result Served LookupError) (said heard : List ℕ) : Type 0 where
  pub request : Request
  pub came : BringsRequest heard request
  pub replies : Replies allows leaves conn before after request stop result said

-- ONE REQUEST SERVED: what was written and read, how many turns it took, and what became of the mapper
pub record Serves {M : Type 0} (allows : M → ℕ → Request → Answer → M → Type 0) (leaves : M → ℕ → M → Type 0) (conn limit : ℕ)
    (old new : StreamState) (before after : M) (result : Result Served LookupError) : Type 0 where
  pub said : List ℕ
  pub heard : List ℕ
  pub written : new.written ≡ append_known old.written said
  pub unread : old.unread ≡ prepend_known heard new.unread
  pub left : ℕ
  -- the fault of the stream, if one ended the serving
  pub stop : Option TurnError
  pub spends : Spends old new limit left stop
  pub outcome : Unrequested before after stop result said heard ⊎ Requested allows leaves conn before after stop result said heard
