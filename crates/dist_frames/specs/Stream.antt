-- Streams of bodies, each behind its length: short frames with a length of 2 bytes (ERTS User's Guide, Distribution
-- Handshake), packets of a linked stream with a length of 4 bytes (Protocol between Connected Nodes).
use Rattle.std.specs.Prelude.{◌≡◌, ℕ, zero, suc, ◌-◌, ◌*◌, ◌^◌, ◌<◌, Bool, ◌&&◌, List, [], ◌∷◌, ◌++◌, length, take, drop, Option, Some, None, nat_le}
use Rattle.std.specs.Prelude.{if◌then◌else◌}
use Rattle.std.specs.{List.flat_map, List.AllByRecursion, Int.Width, Int.w16, Int.w32, Int.byte_len, Int.from_be_bytes}
pub use Rattle.dist_names.specs.Bytes.{number}

-- ---- what a stream is

-- the frame of a body: its length in a field of this width, then the body; the length does not count itself
abbrev pub body_frame : Width → List ℕ → List ℕ
body_frame w body = number w (length body) ++ body

-- the length of a body fits its field
abbrev pub FitsWidth : Width → List ℕ → Type 0
FitsWidth w body = length body < 2 ^ (8 * byte_len w)

-- THE BODIES OF A STREAM: the stream is their frames joined, and then a rest that begins with no whole frame
pub record Splits (w : Width) (stream : List ℕ) (bodies : List (List ℕ)) (rest : List ℕ) : Type 0 where
  pub whole : stream ≡ flat_map (body_frame w) bodies ++ rest
  pub fit : AllByRecursion (FitsWidth w) bodies
  pub no_more : (body more : List ℕ) → FitsWidth w body → rest ≡ body_frame w body ++ more → ⊥

-- ---- the same, computed

-- the length that the stream begins with
abbrev pub head : Width → List ℕ → ℕ
head w stream = from_be_bytes w (take (byte_len w) stream)

-- whether a whole body stands at the front
abbrev pub has_first : Width → List ℕ → Bool
has_first w stream = nat_le (byte_len w) (length stream) && nat_le (head w stream) (length (drop (byte_len w) stream))

-- that body
abbrev pub front : Width → List ℕ → List ℕ
front w stream = take (head w stream) (drop (byte_len w) stream)

-- what stands behind that body
abbrev pub behind : Width → List ℕ → List ℕ
behind w stream = drop (head w stream) (drop (byte_len w) stream)

-- the first body, where there is one
abbrev pub first_body : Width → List ℕ → Option (List ℕ)
first_body w stream = if has_first w stream then Some (front w stream) else None

-- what stands behind the first body, or all bytes where there is none
abbrev pub after_first : Width → List ℕ → List ℕ
after_first w stream = if has_first w stream then behind w stream else stream

-- the first bodies, as many as the number allows
unfoldable pub bodies_up_to : ℕ → Width → List ℕ → List (List ℕ)
bodies_up_to zero w stream = []
bodies_up_to (suc n) w stream = if has_first w stream then front w stream ∷ bodies_up_to n w (behind w stream) else []

-- what is left after that many bodies
unfoldable pub rest_up_to : ℕ → Width → List ℕ → List ℕ
rest_up_to zero w stream = stream
rest_up_to (suc n) w stream = if has_first w stream then rest_up_to n w (behind w stream) else stream

-- all bodies
abbrev pub split_bodies : Width → List ℕ → List (List ℕ)
split_bodies w stream = bodies_up_to (length stream) w stream

-- what is left after all bodies
abbrev pub split_rest : Width → List ℕ → List ℕ
split_rest w stream = rest_up_to (length stream) w stream

-- the bodies of a stream of short frames
abbrev pub bodies : List ℕ → List (List ℕ)
bodies stream = split_bodies w16 stream

-- how many packets of a linked stream have ended
abbrev pub packets : List ℕ → ℕ
packets stream = length (split_bodies w32 stream)

-- what is kept of a packet that is not whole: the bytes of its length, or a length that counts only the bytes still to come
abbrev pub short_rest : List ℕ → List ℕ
short_rest rest = if nat_le (length rest) 4 then rest else number w32 (head w32 rest - (length rest - 4))

-- what is kept behind the whole packets of a stream, so that it goes on as the stream does
abbrev pub partial : List ℕ → List ℕ
partial stream = short_rest (split_rest w32 stream)
