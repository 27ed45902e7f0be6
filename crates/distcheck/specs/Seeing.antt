-- What is seen of a connection.
use Rattle.std.specs.Prelude.{◌≡◌, ℕ, ◌≤◌, Bool, true, false, ◌||◌, nat_lt, List, [], ◌++◌, length, take}
use Rattle.std.specs.Io.KnownBytes.{append_known, prepend_known, IsAtEnd}
use Rattle.dist_stream.specs.Stream.{StreamState}
use Rattle.distcheck.specs.declared.seen.{PeerEnd.PeerEnd, StepFact.StepFact}
use Rattle.distcheck.specs.declared.seen.PeerEnd.TheVariants as end
use Rattle.distcheck.specs.declared.seen.StepFact.TheVariants as seen
use Rattle.distcheck.specs.declared.talk_stream.TalkStream.{TalkStream}
use Rattle.distcheck.specs.declared.talk_stream.TalkStream.TheVariants as talk_stream

-- what a talk reads and writes: what its connection carries, or what the frames in its tunnel do
abbrev pub carried : {P T : Type 0} → (P → StreamState) → (T → StreamState) → TalkStream P T → StreamState
carried plain tunnelled (talk_stream.Plain stream) = plain stream
carried plain tunnelled (talk_stream.Tunnelled frames) = tunnelled frames

-- nothing more can come
abbrev pub end_of : PeerEnd → Bool
end_of end.Open = false
end_of end.Closed = true
end_of end.Reset = true

-- nobody listens where a step connects
abbrev pub is_refusal : StepFact → Bool
is_refusal seen.Refused = true
is_refusal other = false

-- the peer was heard: a byte, or an end
abbrev pub is_heard : StepFact → Bool
is_heard (seen.Heard h) = nat_lt 0 (length h.bytes) || end_of h.timing.end
is_heard other = false

-- WHAT CAME IS WHAT WAS READ: these bytes were read from the stream, and stand behind what had come before
pub record HearsMore (old new : StreamState) (before after : List ℕ) : Type 0 where
  pub heard : List ℕ
  pub unread : old.unread ≡ prepend_known heard new.unread
  pub written : new.written ≡ old.written
  pub after_is : after ≡ before ++ heard

-- the peer has ended the connection only where nothing is left to be read
abbrev pub EndsAt : PeerEnd → StreamState → Type 0
EndsAt how s = how ≡ end.Closed → IsAtEnd s.unread

-- so many of these bytes were written, from the front
pub record Wrote (old new : StreamState) (bytes : List ℕ) (count : ℕ) : Type 0 where
  pub within : count ≤ length bytes
  pub written : new.written ≡ append_known old.written (take count bytes)
  pub unread : new.unread ≡ old.unread

-- WHAT WAS SAID IS WHAT WAS WRITTEN: a front of these bytes, and where it is whole all of them
pub record SaysFront (old new : StreamState) (bytes : List ℕ) (is_whole : Bool) : Type 0 where
  pub count : ℕ
  pub wrote : Wrote old new bytes count
  pub whole : is_whole ≡ true → count ≡ length bytes

-- what was seen in a step that says: bytes that were written, or none were
abbrev pub IsSaid : StreamState → StreamState → StepFact → Type 0
IsSaid old new (seen.Said said) = SaysFront old new said.bytes said.is_whole
IsSaid old new other = new ≡ old

-- what was seen in a step that listens: what was read
abbrev pub IsHeard : StreamState → StreamState → StepFact → Type 0
IsHeard old new (seen.Heard h) = HearsMore old new [] h.bytes
IsHeard old new other = new ≡ old

-- the end that was seen came
abbrev pub HasEnd : StreamState → StepFact → Type 0
HasEnd s (seen.Heard h) = EndsAt h.timing.end s
HasEnd s other = Unit {0}
