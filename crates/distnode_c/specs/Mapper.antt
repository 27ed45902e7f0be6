-- The contracts of the exports that write and read the port mapper's messages, and of the one that makes a digest.
use Rattle.std.specs.Prelude.{◌≡◌, ℕ, ◌^◌, ◌≤◌, ◌⊎◌, List, [], length, Result, Ok, Err}
use Rattle.std.specs.Int.{w16}
use Rattle.dist_frames.specs.Stream.{body_frame}
use Rattle.dist_secret.specs.{declared.cookie_error.CookieError.CookieError, Digest.digest_of}
use Rattle.dist_epmd.specs.declared.{epmd_error.EpmdError.EpmdError, message.Answer.Answer, message.Request.Request}
use Rattle.dist_epmd.specs.declared.message.Answer.TheVariants as answer
use Rattle.dist_epmd.specs.declared.message.Request.TheVariants as request
use Rattle.distnode_c.specs.{declared.mapper.DnInfo.DnInfo, Codes.epmd_code}
use Rattle.dist_c_guest.specs.{Codes.cookie_code, Steps.Copies, Steps.Keeps, Steps.Silent}

-- the frame of what is written is copied, or the reason why nothing is
abbrev pub Asks : Result (List ℕ) EpmdError → ℕ → ℕ → ℕ → List ℕ → List ℕ → Type 0
Asks (Ok body) code had len old new =
    Copies (body_frame w16 body) code len old new ⊎ (Keeps 3 code had len old new ⊎ ((2 ^ 16 ≤ length body) × Keeps 40 code had len old new))
Asks (Err e) code had len old new = Keeps (epmd_code e) code had len old new

-- the request of a registration
abbrev pub alive_of : DnInfo → List ℕ → Request
alive_of i name = request.Alive (record {
  port = i.port;
  node_type = i.node_type;
  protocol = i.protocol;
  highest = i.highest;
  lowest = i.lowest;
  name = name;
  extra = [];
})

-- what is reported of the answer to a registration, which takes no memory
abbrev pub ReportsAlive : Result Answer EpmdError → ℕ → ℕ → ℕ → ℕ → ℕ → Type 0
ReportsAlive (Ok (answer.AliveX r c)) code was is had has = (code ≡ 0) × (is ≡ r) × (has ≡ c)
ReportsAlive (Ok (answer.Alive r c)) code was is had has = (code ≡ 0) × (is ≡ r) × (has ≡ c)
ReportsAlive (Ok other) code was is had has = Keeps 40 code was is had has ⊎ Keeps 3 code was is had has
ReportsAlive (Err e) code was is had has = Keeps (epmd_code e) code was is had has

-- what is reported of the answer to a lookup: memory may run out only for a node
abbrev pub ReportsPort : Result Answer EpmdError → ℕ → ℕ → ℕ → DnInfo → DnInfo → Type 0
ReportsPort (Ok (answer.Port (Ok i))) code was is had has =
    ((code ≡ 0) × (is ≡ 0) × (has ≡ record { port = i.port; highest = i.highest; lowest = i.lowest; node_type = i.node_type; protocol = i.protocol }))
    ⊎ Keeps 3 code was is had has
ReportsPort (Ok (answer.Port (Err r))) code was is had has = (code ≡ 0) × (is ≡ r) × (has ≡ had)
ReportsPort (Ok other) code was is had has = Keeps 40 code was is had has ⊎ Keeps 3 code was is had has
ReportsPort (Err e) code was is had has = Keeps (epmd_code e) code was is had has

-- the digest under a cookie, or the reason why there is none
abbrev pub Digests : Result (List ℕ) CookieError → ℕ → ℕ → List ℕ → List ℕ → Type 0
Digests (Ok cookie) challenge code old new = ((code ≡ 0) × (new ≡ digest_of cookie challenge)) ⊎ Silent 3 code old new
Digests (Err e) challenge code old new = Silent (cookie_code e) code old new
