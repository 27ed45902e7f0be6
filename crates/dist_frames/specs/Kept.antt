-- What a reader keeps, of short frames and of packets.
use Rattle.std.specs.Prelude.{ℕ, ◌+◌, List, length, take, nat_le, ◌==◌, if◌then◌else◌}
use Rattle.std.specs.Int.{w16, w32}
use Rattle.dist_frames.specs.Stream.{number, head}

-- how many bytes the short frame at the front has, its length included; 2 until its length has come
abbrev pub frame_len : List ℕ → ℕ
frame_len pending = if nat_le 2 (length pending) then 2 + head w16 pending else 2

-- what is kept of a packet that has not ended: the bytes of its length that came, or the number of bytes still to come
abbrev pub kept_of : ℕ → List ℕ → ℕ → List ℕ
kept_of owed header len = if owed == 0 then take len header else number w32 owed
