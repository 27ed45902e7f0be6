-- What the bytes of a client ask for (ERTS User's Guide, Distribution Protocol, EPMD Protocol: a request stands behind its
-- length in 2 bytes).
use Rattle.std.specs.Prelude.{ℕ, ◌-◌, Bool, List, [], ◌∷◌, length, take, drop, Some, None, Result, Ok, Err, nat_lt, ◌==◌, if◌then◌else◌}
use Rattle.std.specs.Int.{w16, from_be_bytes}
use Rattle.dist_epmd.specs.{declared.epmd_error.EpmdError.EpmdError, declared.message.Request.Request, Reading.info_at, Reading.read_request}
use Rattle.dist_epmd.specs.declared.message.Request.TheVariants as request
use Rattle.dist_names.specs.Fields.{Taken}
use Rattle.dist_epmd_clients.specs.declared.question.Question.{Question, TheVariants.Inside, TheVariants.Asks, TheVariants.Nothing}

-- all of some bytes up to the end of what was read in them, and all of them where they end inside it
abbrev pub up_to : {A : Type 0} → List ℕ → Taken A → List ℕ
up_to bytes None = bytes
up_to bytes (Some x) = take (length bytes - length x.1) bytes

-- THE FRONT OF A BODY, which alone is what the body asks: a registration ends behind its extra, and the question for all names is
-- one byte. The guide lets no bytes stand behind these, and `read_request`, the reading of the specification, refuses a body that
-- has some. `epmd` passes over them, and so does this port mapper. Of every other body the front is the whole.
unfoldable pub front : List ℕ → List ℕ
front [] = []
front (tag ∷ rest) =
    if tag == 0x78 then up_to (tag ∷ rest) (info_at rest) else (
    if tag == 0x6e then take 1 (tag ∷ rest) else tag ∷ rest)

-- what the body of a frame asks for: a request, and a registration from this host alone
abbrev pub request_question : Bool → Result Request EpmdError → Question
request_question local (Err error) = Nothing
request_question local (Ok (request.Alive info)) = if local then Asks (request.Alive info) else Nothing
request_question local (Ok (request.PortPlease name)) = Asks (request.PortPlease name)
request_question local (Ok request.Names) = Asks request.Names

-- what the bytes behind a frame's length ask for: nothing where the frame is longer than is read, nothing yet where some of it
-- is missing, and nothing where there are more bytes than it has
abbrev pub question_behind_length : Bool → ℕ → List ℕ → Question
question_behind_length local len body =
    if nat_lt 4094 len then Nothing else (
    if nat_lt (length body) len then Inside else (
    if nat_lt len (length body) then Nothing else request_question local (read_request (front body))))

-- WHAT ALL THAT A CLIENT SENT ASKS FOR, by whether it is on this host
abbrev pub question : Bool → List ℕ → Question
question local said = if nat_lt (length said) 2 then Inside else question_behind_length local (from_be_bytes w16 (take 2 said)) (drop 2 said)
