-- What contracts see of a stream, and how a read and a write change it.
use Rattle.std.specs.Prelude.{◌≡◌, ℕ, ◌+◌, ◌-◌, ◌^◌, ◌≤◌, min, Bool, true, false, ◌||◌, ◌==◌, List, length, take, Option, IsTrue}
use Rattle.std.specs.Io.KnownBytes.{prepend_known, append_known, IsAtEnd}
use Rattle.dist_stream.specs.declared.stream.{Heard.Heard, Took.Took}
use Rattle.dist_stream.specs.declared.stream.Heard.TheVariants as heard
use Rattle.dist_stream.specs.declared.stream.Took.TheVariants as took

-- a stream, as contracts see it
pub record StreamState : Type 0 where
  -- the bytes that reads will give, where the stream shows them
  pub unread : Option (List ℕ)
  -- the bytes that writes took, where the stream shows them
  pub written : Option (List ℕ)
  -- how many reads and writes were made; the count stops at the greatest u64
  pub calls : ℕ
  -- a read gave no bytes
  pub ended : Bool
  -- a read failed
  pub read_failed : Bool
  -- a write failed, or took no bytes
  pub write_failed : Bool

-- a stream that was not used yet
abbrev pub new_stream : Option (List ℕ) → Option (List ℕ) → StreamState
new_stream unread written = record { unread = unread; written = written; calls = 0; ended = false; read_failed = false; write_failed = false }

-- one call more
abbrev pub one_more : ℕ → ℕ
one_more calls = min (calls + 1) (2 ^ 64 - 1)

-- ---- a read

-- how many bytes came
abbrev pub heard_count : Heard → ℕ
heard_count (heard.Bytes n) = n
heard_count other = 0

-- the stream says that it has ended
abbrev pub is_end : Heard → Bool
is_end (heard.Bytes n) = n == 0
is_end other = false

-- the read failed
abbrev pub is_failed_read : Heard → Bool
is_failed_read heard.Failed = true
is_failed_read other = false

-- A read takes the next unread bytes into the front of the buffer, and marks an end or a failure.
pub record Reads (old new : StreamState) (room : List ℕ) (result : Heard) : Type 0 where
  pub fits : heard_count result ≤ length room
  pub unread : old.unread ≡ prepend_known (take (heard_count result) room) new.unread
  pub written : new.written ≡ old.written
  pub calls : new.calls ≡ one_more old.calls
  pub ended : new.ended ≡ (is_end result || old.ended)
  pub all : IsTrue (is_end result) → IsAtEnd new.unread
  pub read_failed : new.read_failed ≡ (is_failed_read result || old.read_failed)
  pub write_failed : new.write_failed ≡ old.write_failed

-- ---- a write

-- how many bytes were taken
abbrev pub took_count : Took → ℕ
took_count (took.Bytes n) = n
took_count other = 0

-- the write failed, or took no bytes
abbrev pub is_failed_write : Took → Bool
is_failed_write (took.Bytes n) = n == 0
is_failed_write took.Quiet = false
is_failed_write took.Failed = true

-- A write takes bytes from the front, and marks a failure.
pub record Writes (old new : StreamState) (bytes : List ℕ) (result : Took) : Type 0 where
  pub fits : took_count result ≤ length bytes
  pub written : new.written ≡ append_known old.written (take (took_count result) bytes)
  pub unread : new.unread ≡ old.unread
  pub calls : new.calls ≡ one_more old.calls
  pub ended : new.ended ≡ old.ended
  pub read_failed : new.read_failed ≡ old.read_failed
  pub write_failed : new.write_failed ≡ (is_failed_write result || old.write_failed)
