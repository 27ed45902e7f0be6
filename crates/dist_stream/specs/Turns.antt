-- What some reads and writes did, how many turns they took, and what a fault means.
use Rattle.std.specs.Prelude.{◌≡◌, ℕ, ◌+◌, ◌-◌, ◌^◌, ◌<◌, ◌≤◌, Bool, true, false, ◌||◌, List, length, take, Option, Some, None, Result, Ok, Err}
use Rattle.std.specs.Io.KnownBytes.{prepend_known, append_known, IsAtEnd}
use Rattle.dist_stream.specs.{declared.turn_error.TurnError.TurnError, Stream.StreamState}
use Rattle.dist_stream.specs.declared.turn_error.TurnError.TheVariants as fault

-- ---- faults

-- the fault that a call returns, where it returns one
abbrev pub fault_of : {X : Type 0} → Result X TurnError → Option TurnError
fault_of (Ok value) = None
fault_of (Err error) = Some error

-- the fault is that the stream has ended
abbrev pub reports_end : Option TurnError → Bool
reports_end (Some fault.Ended) = true
reports_end error = false

-- the fault is that a read failed
abbrev pub reports_failed_read : Option TurnError → Bool
reports_failed_read (Some fault.ReadFailed) = true
reports_failed_read error = false

-- the fault is that a write failed
abbrev pub reports_failed_write : Option TurnError → Bool
reports_failed_write (Some fault.WriteFailed) = true
reports_failed_write error = false

-- `Ended` is returned where no byte is left, and `Limit` where no turn is left.
abbrev pub HasTurnCause : Option TurnError → StreamState → ℕ → Type 0
HasTurnCause (Some fault.Ended) new left = IsAtEnd new.unread
HasTurnCause (Some fault.Limit) new left = left ≡ 0
HasTurnCause error new left = Unit {0}

-- the faults that reads can return
abbrev pub IsReadFault : Option TurnError → Type 0
IsReadFault (Some fault.WriteFailed) = ⊥
IsReadFault error = Unit {0}

-- the faults that writes can return
abbrev pub IsWriteFault : Option TurnError → Type 0
IsWriteFault (Some fault.ReadFailed) = ⊥
IsWriteFault (Some fault.Ended) = ⊥
IsWriteFault error = Unit {0}

-- ---- turns

-- The count of calls rises by this many, up to the greatest u64.
pub record Rises (made old new : ℕ) : Type 0 where
  pub most : new ≤ old + made
  pub exact : new < 2 ^ 64 - 1 → new ≡ old + made

-- This many of the turns are left. Each mark is set exactly if its fault is returned, or if it was set before.
pub record Spends (old new : StreamState) (turns left : ℕ) (error : Option TurnError) : Type 0 where
  pub within : left ≤ turns
  pub calls : Rises (turns - left) old.calls new.calls
  pub ended : new.ended ≡ (reports_end error || old.ended)
  pub read_failed : new.read_failed ≡ (reports_failed_read error || old.read_failed)
  pub write_failed : new.write_failed ≡ (reports_failed_write error || old.write_failed)
  pub cause : HasTurnCause error new left

-- Bytes were written, and none were read.
pub record Says (old new : StreamState) (turns left : ℕ) (error : Option TurnError) (said : List ℕ) : Type 0 where
  pub written : new.written ≡ append_known old.written said
  pub unread : new.unread ≡ old.unread
  pub spends : Spends old new turns left error
  pub fault_is : IsWriteFault error

-- Bytes were read, and none were written.
pub record Hears (old new : StreamState) (turns left : ℕ) (error : Option TurnError) (heard : List ℕ) : Type 0 where
  pub unread : old.unread ≡ prepend_known heard new.unread
  pub written : new.written ≡ old.written
  pub spends : Spends old new turns left error
  pub fault_is : IsReadFault error

-- the number in an Ok, else 0
abbrev pub count_of : Result ℕ TurnError → ℕ
count_of (Ok count) = count
count_of (Err error) = 0

-- ---- whole texts and buffers

-- the whole length where no fault is returned, else less
abbrev pub IsAllUnless : Option TurnError → ℕ → ℕ → Type 0
IsAllUnless None count all = count ≡ all
IsAllUnless (Some error) count all = count < all

-- The first part of the text was written: all of it, unless a fault is returned.
pub record SaysFront (old new : StreamState) (turns left : ℕ) (error : Option TurnError) (text : List ℕ) : Type 0 where
  pub count : ℕ
  pub fits : count ≤ length text
  pub says : Says old new turns left error (take count text)
  pub whole : IsAllUnless error count (length text)

-- The first part of a buffer was filled: all of it, unless a fault is returned.
pub record HearsFront (old new : StreamState) (turns left : ℕ) (error : Option TurnError) (room : List ℕ) : Type 0 where
  pub count : ℕ
  pub fits : count ≤ length room
  pub hears : Hears old new turns left error (take count room)
  pub whole : IsAllUnless error count (length room)
