-- LONG FRAMES AS SHORT ONES: of the four bytes of each length only the last two are kept, if the others are 0. What comes behind the last
-- frame of a handshake is kept as it is.
use Rattle.std.specs.Prelude.{ℕ, ◌-◌, ◌^◌, ◌==◌, Bool, true, false, ◌||◌, List, [], ◌∷◌, if◌then◌else◌}
use Rattle.std.specs.Int.{w16, from_be_bytes}
use Rattle.dist_long_frames.specs.declared.place.Place.{Place}
use Rattle.dist_long_frames.specs.declared.place.Place.TheVariants as place

-- a body that begins with this byte is the last of its direction: a reply (r), or an acknowledgement (a)
abbrev pub is_last_tag : ℕ → Bool
is_last_tag byte = byte == 114 || byte == 97

-- the frame of this body is the last
abbrev pub is_last : List ℕ → Bool
is_last [] = false
is_last (tag ∷ rest) = is_last_tag tag

-- behind a frame
abbrev pub frame_end : Bool → Place
frame_end true = place.Beyond
frame_end false = place.First

-- before a body of this many bytes
abbrev pub front_place : ℕ → Place
front_place left = if left == 0 then place.First else place.Tag left

-- before this many further bytes of a body
abbrev pub rest_place : ℕ → Bool → Place
rest_place left last = if left == 0 then frame_end last else place.Body left last

-- behind this byte
abbrev pub after : Place → ℕ → Place
after place.First byte = if byte == 0 then place.Second else place.TooLong
after place.Second byte = if byte == 0 then place.Third else place.TooLong
after place.Third byte = place.Fourth byte
after (place.Fourth high) byte = front_place (from_be_bytes w16 (high ∷ byte ∷ []))
after (place.Tag left) byte = rest_place (left - 1) (is_last_tag byte)
after (place.Body left last) byte = rest_place (left - 1) last
after place.Beyond byte = place.Beyond
after place.TooLong byte = place.TooLong

-- behind these bytes
abbrev pub place_after : Place → List ℕ → Place
place_after p [] = p
place_after p (byte ∷ rest) = place_after (after p byte) rest

-- the next byte stands in short frames, too
abbrev pub is_shared : Place → Bool
is_shared place.First = false
is_shared place.Second = false
is_shared place.TooLong = false
is_shared other = true

-- it is behind a length above 65,535
abbrev pub is_too_long : Place → Bool
is_too_long place.TooLong = true
is_too_long other = false

-- how many bytes are read or written at once at most
abbrev pub room_at : Place → ℕ
room_at (place.Body left last) = if left == 0 then 1 else left
room_at place.Beyond = 2 ^ 64 - 1
room_at other = 1

-- the byte before the rest, if it is shared
abbrev pub shared_before : Bool → ℕ → List ℕ → List ℕ
shared_before true byte rest = byte ∷ rest
shared_before false byte rest = rest

-- the bytes that stand in short frames
abbrev pub shortened : Place → List ℕ → List ℕ
shortened p [] = []
shortened p (byte ∷ rest) = shared_before (is_shared p) byte (shortened (after p byte) rest)
