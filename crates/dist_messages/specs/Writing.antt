-- Which body is written for a message, or why there is none, in the words of the layouts.
use Rattle.std.specs.Prelude.{◌≡◌, ℕ, ◌+◌, ◌<◌, ◌≤◌, List, [], length, take, drop, Result, Ok, Err}
use Rattle.std.specs.Int.{w16, to_be_bytes}
use Rattle.dist_messages.specs.{Answer.is_message_memory_error, Canonical.canonical, Canonical.written_version, Spelling.Spells}
use Rattle.dist_messages.specs.declared.{message.Side.Side, message.Status.Status, message.Message.Message, message_error.MessageError.MessageError}
use Rattle.dist_messages.specs.declared.message.Message.TheVariants as message
use Rattle.dist_names.specs.Answer.{RefusedBut}

-- the name that a message has, and no bytes where it has none
abbrev pub name_in : Message → List ℕ
name_in (message.OldName flags name) = name
name_in (message.NewName flags creation name) = name
name_in (message.OldChallenge flags challenge name) = name
name_in (message.NewChallenge flags challenge creation name) = name
name_in _ = []

-- What the check before writing returned: the message is written as its spelling and has a short name, or this refusal.
abbrev pub AnswersCheck : Message → Result (Unit {0}) MessageError → Result (List ℕ) MessageError → Type 0
AnswersCheck m (Ok _) answer = (answer ≡ Ok (canonical m)) × (length (name_in m) ≤ 255)
AnswersCheck m (Err error) answer = RefusedBut (is_message_memory_error error) error answer

-- the same message with a name of no bytes
abbrev pub nameless : Message → Message
nameless (message.OldName flags name) = message.OldName flags []
nameless (message.NewName flags creation name) = message.NewName flags creation []
nameless (message.OldChallenge flags challenge name) = message.OldChallenge flags challenge []
nameless (message.NewChallenge flags challenge creation name) = message.NewChallenge flags challenge creation []
nameless m = m

-- this side has a row for the message, whatever its name
pub record HasRow (side : Side) (m : Message) : Type 0 where
  pub body : List ℕ
  pub row : Spells side (nameless m) body

-- The version, where the body has one, is 5. No bytes stand after a name.
abbrev pub IsPlain : Message → List ℕ → Type 0
IsPlain (message.OldName flags name) body = take 2 (drop 1 body) ≡ to_be_bytes w16 written_version
IsPlain (message.NewName flags creation name) body = length body ≡ 15 + length name
IsPlain (message.OldChallenge flags challenge name) body = take 2 (drop 1 body) ≡ to_be_bytes w16 written_version
IsPlain (message.NewChallenge flags challenge creation name) body = length body ≡ 19 + length name
IsPlain _ body = Unit {0}

-- The body spells the message with version 5 and no bytes after the name, which has at most 255 bytes.
pub record IsWritten (side : Side) (m : Message) (body : List ℕ) : Type 0 where
  pub spelled : Spells side m body
  pub plain : IsPlain m body
  pub short : length (name_in m) ≤ 255

-- The message is not a status, and this side has no row for it.
pub record HasNoRow (side : Side) (m : Message) : Type 0 where
  pub no_status : (s : Status) → m ≡ message.Status s → ⊥
  pub no_row : HasRow side m → ⊥

-- This side has a row for the message, and the name has more than 255 bytes.
pub record HasLongName (side : Side) (m : Message) : Type 0 where
  pub has_row : HasRow side m
  pub long : 255 < length (name_in m)

-- The message is a status, but not one of this side.
pub record IsOtherStatus (side : Side) (m : Message) : Type 0 where
  pub status : Status
  pub is : m ≡ message.Status status
  pub no_row : HasRow side m → ⊥
